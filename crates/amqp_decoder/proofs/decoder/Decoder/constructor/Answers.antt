use Rattle.std.proofs.Common.{rules, arith, ◌≡◌, ◌≤◌, map, length, vec_len, sym}
use Rattle.std.proofs.lemmas.Result.{err_from_is_err_and}
use Rattle.std.proofs.lemmas.List.{length-map}
use Rattle.amqp_decoder.specs.State.{descriptor_of}
use Rattle.amqp_decoder.proofs.Constructed.{unshared_behind, more_named, code_after, constructor_took, stopped_first, stopped_code}
use Rattle.amqp_decoder.proofs.Constructed.{stopped_mark, stopped_unknown}
use Rattle.amqp_decoder.specs.Steps.{Lacks}
use Rattle.amqp_decoder.proofs.Places.{stops_here}
use Rattle.amqp_decoder.proofs.decoder.Decoder.constructor.Goals as goal

pub returns-in_err-code-clause-err : goal.returns-in_err-code-clause-err
returns-in_err-code-clause-err g c = λ told none.
    let p = err_from_is_err_and c.from_residual.result c.from_residual.ensures.1 in
    rw (p.1, p.2) (stopped_first _ _ _ (stops_here (Lacks 1) {st = c.args.self.now} (c.in_err-code.ensures.err told) c.in_err-code.ensures.place))

pub returns-in_err-keep_descriptor-clause-err : goal.returns-in_err-keep_descriptor-clause-err
returns-in_err-keep_descriptor-clause-err g c = λ told none.
    let p = err_from_is_err_and c.from_residual-in_err-keep_descriptor.result c.from_residual-in_err-keep_descriptor.ensures.1 in
    let marks = rw c.loop-code-test.true at (c.loop-code.invariant.marks told none) in
    let same : length c.loop-code.descriptors.items ≡ vec_len c.loop-code.descriptors = search rules in
    rw (p.1, p.2) (stopped_mark _ _ _ _ _ _ (sym (length-map c.loop-code.descriptors.items descriptor_of))
    (omega (arith, same, c.loop-code.invariant.few)) marks
    (c.in_err-keep_descriptor.ensures.err told (unshared_behind _ _ _ _ marks none)))

pub returns-in_err-code-2-clause-err : goal.returns-in_err-code-2-clause-err
returns-in_err-code-2-clause-err g c = λ told none.
    let p = err_from_is_err_and c.from_residual-in_err-code-2.result c.from_residual-in_err-code-2.ensures.1 in
    let marks = rw c.loop-code-test.true at (c.loop-code.invariant.marks told none) in
    let named = more_named _ _ _ _ _ none marks (c.in_ok-keep_descriptor.ensures.ok told (unshared_behind _ _ _ _ marks none)) in
    let f = c.in_ok-keep_descriptor.ensures.few in
    let same : length c.keep_descriptor.new.descriptors.items ≡ vec_len c.keep_descriptor.new.descriptors = search rules in
    let few : length (map descriptor_of c.keep_descriptor.new.descriptors.items) ≤ 128 =
    omega (arith, length-map c.keep_descriptor.new.descriptors.items descriptor_of, same, f.0, f.1) in
    rw (p.1, p.2) (stopped_code _ _ _ _ _ few named
    (stops_here (Lacks 1) {st = c.keep_descriptor.new.self} (c.in_err-code-2.ensures.err told) c.in_err-code-2.ensures.place))

pub loop-code-preserved : goal.loop-code-preserved
loop-code-preserved g c = record {
  few = let f = c.in_ok-keep_descriptor.ensures.few in omega (arith, f.0, f.1);
  marks = λ told none.
      let marks = rw c.loop-code-test.true at (c.loop-code.invariant.marks told none) in
      let named = more_named _ _ _ _ _ none marks (c.in_ok-keep_descriptor.ensures.ok told (unshared_behind _ _ _ _ marks none)) in
      code_after _ _ _ _ _ named (c.in_ok-code-2.ensures.ok told);
  goes = search rules;
}

pub returns-in_err-check_known-clause-err : goal.returns-in_err-check_known-clause-err
returns-in_err-check_known-clause-err g c = λ told none.
    let p = err_from_is_err_and c.from_residual-in_err-check_known.result c.from_residual-in_err-check_known.ensures.1 in
    let same : length c.loop-code.descriptors.items ≡ vec_len c.loop-code.descriptors = search rules in
    let few : length (map descriptor_of c.loop-code.descriptors.items) ≤ 128 =
    omega (arith, length-map c.loop-code.descriptors.items descriptor_of, same, c.loop-code.invariant.few) in
    rw (p.1, p.2) (stopped_unknown _ _ _ _ _ _ few (c.loop-code.invariant.marks told none) c.in_err-check_known.ensures.err
    c.in_err-check_known.ensures.place)

pub returns-clause-ok : goal.returns-clause-ok
returns-clause-ok g c = λ told none.
    let same : length c.loop-code.descriptors.items ≡ vec_len c.loop-code.descriptors = search rules in
    let few : length (map descriptor_of c.loop-code.descriptors.items) ≤ 128 =
    omega (arith, length-map c.loop-code.descriptors.items descriptor_of, same, c.loop-code.invariant.few) in
    constructor_took _ _ _ _ _ few c.loop-code-test.false (c.loop-code.invariant.marks told none) c.in_ok-check_known.ensures.ok
