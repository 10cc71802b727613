use Rattle.std.proofs.Common.{ap, sym, ◌∙◌, subst}
use Rattle.std.proofs.lemmas.Result.{err_from_is_err_and}
use Rattle.amqp_model.specs.Term.{name}
use Rattle.amqp_decoder.specs.Described.{TakesDescriptor}
use Rattle.amqp_decoder.specs.State.{State}
use Rattle.amqp_decoder.proofs.Steps.{answered_later}
use Rattle.amqp_decoder.proofs.Descriptors.{code_took, text_took, missed_code, missed_ulong, missed_kind, missed_size, missed_text}
use Rattle.amqp_decoder.proofs.decoder.Decoder.any_descriptor.Goals as goal

pub returns-in_err-code-clause-err : goal.returns-in_err-code-clause-err
returns-in_err-code-clause-err g c = λ told none.
    let p = err_from_is_err_and c.from_residual.result c.from_residual.ensures.1 in
    rw (p.1, p.2) (missed_code _ _ _ none (c.in_err-code.ensures.err told))

pub returns-in_err-value-clause-err : goal.returns-in_err-value-clause-err
returns-in_err-value-clause-err g c = λ told none.
    let p = err_from_is_err_and c.from_residual-in_err-value.result c.from_residual-in_err-value.ensures.1 in
    rw (p.1, p.2) (missed_ulong _ _ _ _ _ none (c.in_ok-code.ensures.ok told) (c.in_err-value.ensures.err told))

pub returns-in-Some-clause-ok : goal.returns-in-Some-clause-ok
returns-in-Some-clause-ok g c =
    λ told none. code_took _ _ _ c.in-Some.value _ none (c.in_ok-code.ensures.ok told) (rw c.in-Some.is at (c.in_ok-value.ensures.ok told))

pub returns-in_err-wide-clause-err : goal.returns-in_err-wide-clause-err
returns-in_err-wide-clause-err g c = λ told none.
    let p = err_from_is_err_and c.from_residual-in_err-wide.result c.from_residual-in_err-wide.ensures.1 in
    let other = rw c.in_default.is at (c.in_ok-value.ensures.ok told) in
    let why = c.in_err-wide.ensures.err in
    rw (p.1, p.2) (missed_kind _ _ _ _ _ none (c.in_ok-code.ensures.ok told) other.0 why.0 why.1 why.2
    (answered_later (ap (λ (x : State). x.failed) other.1) why.3))

pub returns-in_err-text-clause-err : goal.returns-in_err-text-clause-err
returns-in_err-text-clause-err g c = λ told none.
    let p = err_from_is_err_and c.from_residual-in_err-text.result c.from_residual-in_err-text.ensures.1 in
    let other = rw c.in_default.is at (c.in_ok-value.ensures.ok told) in
    let wide = c.in_ok-wide.ensures.ok in
    let same = wide.1 ∙ other.1 in
    rw (p.1, p.2) (missed_size _ _ _ _ _ _ none wide.0 (c.in_ok-code.ensures.ok told) (rw same at (c.in_err-text.ensures.err told)))

pub returns-in_err-ascii-clause-err : goal.returns-in_err-ascii-clause-err
returns-in_err-ascii-clause-err g c = λ told none.
    let p = err_from_is_err_and c.from_residual-in_err-ascii.result c.from_residual-in_err-ascii.ensures.1 in
    let other = rw c.in_default.is at (c.in_ok-value.ensures.ok told) in
    let wide = c.in_ok-wide.ensures.ok in
    let same = wide.1 ∙ other.1 in
    let why = c.in_err-ascii.ensures.err in
    rw (p.1, p.2) (missed_text _ _ _ _ _ _ _ _ none wide.0 (c.in_ok-code.ensures.ok told)
    (rw same at (c.in_ok-text.ensures.ok told)) why.0 why.1 why.2)

pub returns-clause-ok : goal.returns-clause-ok
returns-clause-ok g c = λ told none.
    let other = rw c.in_default.is at (c.in_ok-value.ensures.ok told) in
    let wide = c.in_ok-wide.ensures.ok in
    let same = wide.1 ∙ other.1 in
    let text = c.in_ok-ascii.ensures.ok in
    let took = text_took _ _ _ _ _ _ none wide.0 (c.in_ok-code.ensures.ok told) (rw same at (c.in_ok-text.ensures.ok told)) text.0 in
    subst (λ s. TakesDescriptor c.args.self.now (name s) c.ascii.new.self) (sym text.1) (rw text.2 took)
