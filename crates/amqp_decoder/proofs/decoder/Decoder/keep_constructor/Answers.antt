use Rattle.std.proofs.lemmas.Result.{err_from_is_err_and}
use Rattle.std.proofs.Common.{arith, rules}
use Rattle.amqp_decoder.proofs.Constructed.{stopped_first}
use Rattle.amqp_decoder.proofs.KeptConstructors.{marks_first, marks_named, marks_code, constructor_kept, unmarked_deep, unmarked_name}
use Rattle.amqp_decoder.proofs.KeptConstructors.{unmarked_code, unmarked_unknown}
use Rattle.amqp_decoder.proofs.decoder.Decoder.keep_constructor.Goals as goal

pub returns-in_err-code-clause-err : goal.returns-in_err-code-clause-err
returns-in_err-code-clause-err g c = λ told.
    let p = err_from_is_err_and c.from_residual.result c.from_residual.ensures.1 in
    rw (p.1, p.2) (stopped_first _ _ _ (c.in_err-code.ensures.err told))

pub loop-code-init : goal.loop-code-init
loop-code-init g c = record {
  few = omega arith;
  kept = λ told. marks_first _ _ _ _ _ (c.in_ok-code.ensures.ok told);
  goes = search rules;
}

pub loop-code-preserved : goal.loop-code-preserved
loop-code-preserved g c = record {
  few = omega (arith, c.loop-code.invariant.few, c.if-count-eq-NESTING.false);
  kept = λ told.
      let marks = rw c.loop-code-test.true at (c.loop-code.invariant.kept told) in
      marks_code _ _ _ _ _ _ _ _ (marks_named _ _ _ _ _ _ _ marks (c.in_ok-keep_descriptor_bytes.ensures.ok told))
      (c.in_ok-code-2.ensures.ok told);
  goes = search rules;
}

pub returns-then-count-eq-NESTING-clause-err : goal.returns-then-count-eq-NESTING-clause-err
returns-then-count-eq-NESTING-clause-err g c = λ told.
    let marks = rw c.loop-code-test.true at (c.loop-code.invariant.kept told) in
    unmarked_deep _ _ _ _ _ c.stop_before.result _ c.if-count-eq-NESTING.true marks c.stop_before.ensures.answer c.stop_before.ensures.kept
    c.stop_before.ensures.place

pub returns-in_err-keep_descriptor_bytes-clause-err : goal.returns-in_err-keep_descriptor_bytes-clause-err
returns-in_err-keep_descriptor_bytes-clause-err g c = λ told.
    let p = err_from_is_err_and c.from_residual-in_err-keep_descriptor_bytes.result
    c.from_residual-in_err-keep_descriptor_bytes.ensures.1 in
    let marks = rw c.loop-code-test.true at (c.loop-code.invariant.kept told) in
    rw (p.1, p.2) (unmarked_name _ _ _ _ _ _ _ (omega (arith, c.loop-code.invariant.few, c.if-count-eq-NESTING.false)) marks (c.in_err-keep_descriptor_bytes.ensures.err told))

pub returns-in_err-code-2-clause-err : goal.returns-in_err-code-2-clause-err
returns-in_err-code-2-clause-err g c = λ told.
    let p = err_from_is_err_and c.from_residual-in_err-code-2.result c.from_residual-in_err-code-2.ensures.1 in
    let marks = rw c.loop-code-test.true at (c.loop-code.invariant.kept told) in
    let named = marks_named _ _ _ _ _ _ _ marks (c.in_ok-keep_descriptor_bytes.ensures.ok told) in
    rw (p.1, p.2) (unmarked_code _ _ _ _ _ _ _ (omega (arith, c.loop-code.invariant.few, c.if-count-eq-NESTING.false)) named (c.in_err-code-2.ensures.err told))

pub returns-in_err-check_known-clause-err : goal.returns-in_err-check_known-clause-err
returns-in_err-check_known-clause-err g c = λ told.
    let p = err_from_is_err_and c.from_residual-in_err-check_known.result c.from_residual-in_err-check_known.ensures.1 in
    rw (p.1, p.2) (unmarked_unknown _ _ _ _ _ _ _ _ c.loop-code.invariant.few (c.loop-code.invariant.kept told) c.in_err-check_known.ensures.err
    c.in_err-check_known.ensures.place)

pub returns-clause-ok : goal.returns-clause-ok
returns-clause-ok g c =
    λ told. constructor_kept _ _ _ _ _ _ _ c.loop-code.invariant.few c.loop-code-test.false (c.loop-code.invariant.kept told)
    c.in_ok-check_known.ensures.ok
