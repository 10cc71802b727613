use Rattle.std.proofs.Common.{refl, ap}
use Rattle.std.proofs.lemmas.Result.{err_from_is_err_and}
use Rattle.amqp_model.specs.Term.{ulong}
use Rattle.amqp_decoder.specs.State.{State}
use Rattle.amqp_decoder.proofs.ReadPrimitives.{refused_first, lacking_refused, other_refused, data_value}
use Rattle.amqp_decoder.proofs.Steps.{answered_later, answered_so}
use Rattle.amqp_decoder.proofs.decoder.Decoder.any_ulong.Goals as goal

pub returns-in_err-code-clause-read : goal.returns-in_err-code-clause-read
returns-in_err-code-clause-read g c = λ told.
    let p = err_from_is_err_and c.from_residual.result c.from_residual.ensures.1 in
    rw (p.1, p.2) (refused_first ulong 5 _ _ _ (λ v. refl) (c.in_err-code.ensures.read told))

pub returns-in_err-value-clause-read : goal.returns-in_err-value-clause-read
returns-in_err-value-clause-read g c = λ told.
    let p = err_from_is_err_and c.from_residual-in_err-value.result c.from_residual-in_err-value.ensures.1 in
    let l = c.in_err-value.ensures.err told in
    rw (p.1, p.2) (lacking_refused ulong 5 _ _ _ _ _ (λ v. refl) l.kind (c.in_ok-code.ensures.read told) l.kept l.why)

pub returns-in-Some-clause-read : goal.returns-in-Some-clause-read
returns-in-Some-clause-read g c = λ told.
    let d = rw c.in-Some.is at (c.in_ok-value.ensures.ok told) in
    data_value ulong _ _ _ d.data_ _ _ (c.in_ok-code.ensures.read told) d.spelled d.took

pub returns-in-None-clause-read : goal.returns-in-None-clause-read
returns-in-None-clause-read g c = λ told.
    let d = rw c.in-None.is at (c.in_ok-value.ensures.ok told) in
    let b = c.in_ok-code.ensures.read told in
    other_refused ulong 5 _ _ _ _ _ (λ v. refl) b d.0 c.refuse_code.ensures.answer
    (answered_later (ap (λ (x : State). x.failed) d.1) (answered_so c.ulong_data.new.self _ _ c.refuse_code.ensures.kept))
