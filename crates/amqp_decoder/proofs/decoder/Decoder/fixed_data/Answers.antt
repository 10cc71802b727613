use Rattle.std.proofs.Common.{rules}
use Rattle.std.proofs.lemmas.Result.{err_from_is_err_and}
use Rattle.amqp_decoder.proofs.ReadPrimitives.{err_map, fixed_unbegun, fixed_other, fixed_short}
use Rattle.amqp_decoder.proofs.Steps.{answered_so}
use Rattle.amqp_decoder.proofs.decoder.Decoder.fixed_data.Goals as goal

pub returns-in_err-found-clause-err : goal.returns-in_err-found-clause-err
returns-in_err-found-clause-err g c = λ told.
    let p = err_from_is_err_and c.from_residual.result c.from_residual.ensures.1 in
    rw (p.1, p.2) (fixed_unbegun _ _ _ _ _ (c.in_err-found.ensures.read told))

pub returns-then-found-code-clause-err : goal.returns-then-found-code-clause-err
returns-then-found-code-clause-err g c =
    λ told. fixed_other _ _ _ _ _ _ c.refuse_code.result _ (c.in_ok-found.ensures.read told) (search rules) c.refuse_code.ensures.answer
    (answered_so _ _ _ c.refuse_code.ensures.kept)

pub returns-clause-err : goal.returns-clause-err
returns-clause-err g c =
    λ told. err_map _ _ _ (λ e s. fixed_short _ _ _ _ _ _ (rw c.if-found-code.false at (c.in_ok-found.ensures.read told)) s)
    (c.take.ensures.err told)
