use Rattle.std.proofs.Common.{rules, arith, inr}
use Rattle.std.proofs.lemmas.Result.{err_from_is_err_and}
use Rattle.amqp_decoder.specs.Described.{DescribedFault, other_code}
use Rattle.amqp_decoder.proofs.Descriptors.{unbegun, begun_fails, deep_fails}
use Rattle.amqp_decoder.proofs.Steps.{answered_so}
use Rattle.amqp_decoder.proofs.decoder.Decoder.any_begun.Goals as goal

pub returns-in_err-code-clause-err : goal.returns-in_err-code-clause-err
returns-in_err-code-clause-err g c = λ told.
    let p = err_from_is_err_and c.from_residual.result c.from_residual.ensures.1 in
    rw (p.1, p.2) (unbegun _ _ _ (c.in_err-code.ensures.read told))

pub returns-then-code-ne-DESCRIBED-clause-err : goal.returns-then-code-ne-DESCRIBED-clause-err
returns-then-code-ne-DESCRIBED-clause-err g c = λ told.
    let h = c.in_ok-code.ensures.read told in
    begun_fails DescribedFault _ _ _ c.refuse_code.result _ h (answered_so _ _ _ c.refuse_code.ensures.kept)
    (inr (other_code h (search rules) c.refuse_code.ensures.answer))

pub returns-then-nesting_left-eq0-clause-err : goal.returns-then-nesting_left-eq0-clause-err
returns-then-nesting_left-eq0-clause-err g c = λ told.
    deep_fails _ _ _ _ (rw c.if-code-ne-DESCRIBED.false at (c.in_ok-code.ensures.read told)) c.refuse_depth.ensures.answer
    (omega (arith, c.nesting_left.ensures, c.if-nesting_left-eq0.true)) c.refuse_depth.ensures.kept
