use Rattle.std.proofs.Common.{sym, arith, refl, ◌∙◌}
use Rattle.std.specs.List.{flat_map}
use Rattle.std.proofs.lemmas.Result.{err_from_is_err_and}
use Rattle.amqp_model.specs.Term.{list, map, array}
use Rattle.amqp_lookahead.specs.Members.{descriptor_of}
use Rattle.amqp_codec.proofs.Joining.{no_terms, container_wraps, described_wraps, open_refused, inner_refused, all_written}
use Rattle.amqp_codec.proofs.Joining.{terms_join, terms_cut}
use Rattle.amqp_values.proofs.ValuesWritten.{shut_map, found_equal, map_written, barred_written, gave_up, as_read}
use Rattle.amqp_codec.proofs.EachWritten.{next_written, next_refused, all_written_so}
use Rattle.amqp_values.specs.Values.{pairs_of}
use Rattle.amqp_values.specs.Canon.{value_canon, value_canons, pair_canon}
use Rattle.amqp_values.specs.laws.Canon.{list_canon, array_canon, described_canon}
use Rattle.amqp_values.proofs.written.+writing.Goals as goal

pub write_value-returns-in_err-begin_list-in-List : goal.write_value-returns-in_err-begin_list-in-List
write_value-returns-in_err-begin_list-in-List g t c =
    rw (c.in-List.is, list_canon c.in-List.values)
    (open_refused (container_wraps list (flat_map value_canons c.in-List.values.items)) _ _ _ _ _ c.in_err-begin_list-in-List.was
    (err_from_is_err_and c.from_residual-in_err-begin_list-in-List.result c.from_residual-in_err-begin_list-in-List.ensures.1)
    c.begin_list.ensures)

pub write_value-returns-in_err-write_values-in-List : goal.write_value-returns-in_err-write_values-in-List
write_value-returns-in_err-write_values-in-List g t c =
    rw (c.in-List.is, list_canon c.in-List.values)
    (inner_refused (container_wraps list (flat_map value_canons c.in-List.values.items)) _ _ _ _ _ _ _
    c.in_ok-begin_list-in-List.was c.in_err-write_values-in-List.was
    (err_from_is_err_and c.from_residual-in_err-write_values-in-List.result c.from_residual-in_err-write_values-in-List.ensures.1)
    c.begin_list.ensures (rw c.as_slice-in-List.ensures.value at c.write_values.ensures))

pub write_value-returns-in_ok-write_values-in-List : goal.write_value-returns-in_ok-write_values-in-List
write_value-returns-in_ok-write_values-in-List g t c =
    rw (c.in-List.is, list_canon c.in-List.values)
    (all_written (container_wraps list (flat_map value_canons c.in-List.values.items)) _ _ _ _ _ _ _
    c.in_ok-begin_list-in-List.was c.in_ok-write_values-in-List.was c.begin_list.ensures
    (rw c.as_slice-in-List.ensures.value at c.write_values.ensures) c.end_list.ensures)

pub write_value-returns-in_err-begin_array-in-Array : goal.write_value-returns-in_err-begin_array-in-Array
write_value-returns-in_err-begin_array-in-Array g t c =
    rw (c.in-Array.is, array_canon c.in-Array.values)
    (open_refused (container_wraps array (flat_map value_canons c.in-Array.values.0.items)) _ _ _ _ _ c.in_err-begin_array-in-Array.was
    (err_from_is_err_and c.from_residual-in_err-begin_array-in-Array.result c.from_residual-in_err-begin_array-in-Array.ensures.1)
    c.begin_array.ensures)

pub write_value-returns-in_err-write_values-in-Array : goal.write_value-returns-in_err-write_values-in-Array
write_value-returns-in_err-write_values-in-Array g t c =
    rw (c.in-Array.is, array_canon c.in-Array.values)
    (inner_refused (container_wraps array (flat_map value_canons c.in-Array.values.0.items)) _ _ _ _ _ _ _
    c.in_ok-begin_array-in-Array.was c.in_err-write_values-in-Array.was
    (err_from_is_err_and c.from_residual-in_err-write_values-in-Array.result c.from_residual-in_err-write_values-in-Array.ensures.1)
    c.begin_array.ensures (rw c.as_slice-in-Array.ensures.value at c.write_values-in-Array.ensures))

pub write_value-returns-in_ok-write_values-in-Array : goal.write_value-returns-in_ok-write_values-in-Array
write_value-returns-in_ok-write_values-in-Array g t c =
    rw (c.in-Array.is, array_canon c.in-Array.values)
    (all_written (container_wraps array (flat_map value_canons c.in-Array.values.0.items)) _ _ _ _ _ _ _
    c.in_ok-begin_array-in-Array.was c.in_ok-write_values-in-Array.was c.begin_array.ensures
    (rw c.as_slice-in-Array.ensures.value at c.write_values-in-Array.ensures) c.end_array.ensures)

pub write_value-returns-in_err-begin_described-in-Described : goal.write_value-returns-in_err-begin_described-in-Described
write_value-returns-in_err-begin_described-in-Described g t c =
    let v = c.in-Described.value.value in
    rw (c.in-Described.is, described_canon c.in-Described.value)
    (open_refused (described_wraps (descriptor_of v.descriptor) (value_canon v.value)) _ _ _ _ _
    c.in_err-begin_described-in-Described.was (err_from_is_err_and c.from_residual.result c.from_residual.ensures.1)
    (rw (as_read v.descriptor) at (rw c.deref.ensures at c.begin_described.ensures)))

pub write_value-returns-in_err-write_value-in-Described : goal.write_value-returns-in_err-write_value-in-Described
write_value-returns-in_err-write_value-in-Described g t c =
    let v = c.in-Described.value.value in
    rw (c.in-Described.is, described_canon c.in-Described.value)
    (inner_refused (described_wraps (descriptor_of v.descriptor) (value_canon v.value)) _ _ _ _ _ _ _
    c.in_ok-begin_described-in-Described.was c.in_err-write_value-in-Described.was
    (err_from_is_err_and c.from_residual-in_err-write_value-in-Described.result c.from_residual-in_err-write_value-in-Described.ensures.1)
    (rw (as_read v.descriptor) at (rw c.deref.ensures at c.begin_described.ensures))
    (rw c.deref-in-Described.ensures at c.write_value.ensures))

pub write_value-returns-in_ok-write_value-in-Described : goal.write_value-returns-in_ok-write_value-in-Described
write_value-returns-in_ok-write_value-in-Described g t c =
    let v = c.in-Described.value.value in
    rw (c.in-Described.is, described_canon c.in-Described.value)
    (all_written (described_wraps (descriptor_of v.descriptor) (value_canon v.value)) _ _ _ _ _ _ _
    c.in_ok-begin_described-in-Described.was c.in_ok-write_value-in-Described.was
    (rw (as_read v.descriptor) at (rw c.deref.ensures at c.begin_described.ensures))
    (rw c.deref-in-Described.ensures at c.write_value.ensures) c.end_described.ensures)

pub write_values-loop-index-init : goal.write_values-loop-index-init
write_values-loop-index-init g t c = no_terms _ _ (sym c.requires.going)

pub write_values-returns-in_err-write_value : goal.write_values-returns-in_err-write_value
write_values-returns-in_err-write_value g t c =
    next_refused value_canons c.args.values.now c.loop-index.index _ _ _ _ _ _ _ c.loop-index-test.true c.index-values-index.is
    c.in_err-write_value.was (err_from_is_err_and c.from_residual.result c.from_residual.ensures.1) c.loop-index.invariant
    c.write_value.ensures

pub write_values-loop-index-preserved : goal.write_values-loop-index-preserved
write_values-loop-index-preserved g t c =
    next_written value_canons c.args.values.now c.loop-index.index _ _ _ _ _ c.loop-index-test.true c.index-values-index.is
    c.in_ok-write_value.was c.loop-index.invariant c.write_value.ensures

pub write_values-returns : goal.write_values-returns
write_values-returns g t c =
    all_written_so value_canons c.args.values.now c.loop-index.index _ _ (omega (arith, c.loop-index-test.false)) c.loop-index.invariant

pub write_pairs-loop-index-init : goal.write_pairs-loop-index-init
write_pairs-loop-index-init g t c = no_terms _ _ (sym c.requires.going)

pub write_pairs-returns-in_err-write_value : goal.write_pairs-returns-in_err-write_value
write_pairs-returns-in_err-write_value g t c =
    let p = c.index-pairs-index.result in
    next_refused pair_canon c.args.pairs.now c.loop-index.index _ _ _ _ _ _ _ c.loop-index-test.true c.index-pairs-index.is
    c.in_err-write_value.was (err_from_is_err_and c.from_residual.result c.from_residual.ensures.1) c.loop-index.invariant
    (terms_cut (value_canons p.0) (value_canons p.1) _ _ _ _ _ c.in_err-write_value.was (_, c.in_err-write_value.was, refl)
    c.write_value.ensures)

pub write_pairs-returns-in_err-write_value-2 : goal.write_pairs-returns-in_err-write_value-2
write_pairs-returns-in_err-write_value-2 g t c =
    let p = c.index-pairs-index.result in
    next_refused pair_canon c.args.pairs.now c.loop-index.index _ _ _ _ _ _ _ c.loop-index-test.true c.index-pairs-index.is
    c.in_err-write_value-2.was
    (err_from_is_err_and c.from_residual-in_err-write_value-2.result c.from_residual-in_err-write_value-2.ensures.1)
    c.loop-index.invariant
    (terms_join (value_canons p.0) (value_canons p.1) _ _ _ _ _ c.in_ok-write_value.was c.write_value.ensures
    c.write_value-in-loop-index.ensures)

pub write_pairs-loop-index-preserved : goal.write_pairs-loop-index-preserved
write_pairs-loop-index-preserved g t c =
    let p = c.index-pairs-index.result in
    next_written pair_canon c.args.pairs.now c.loop-index.index _ _ _ _ _ c.loop-index-test.true c.index-pairs-index.is
    c.in_ok-write_value-2.was c.loop-index.invariant
    (terms_join (value_canons p.0) (value_canons p.1) _ _ _ _ _ c.in_ok-write_value.was c.write_value.ensures
    c.write_value-in-loop-index.ensures)

pub write_pairs-returns : goal.write_pairs-returns
write_pairs-returns g t c =
    all_written_so pair_canon c.args.pairs.now c.loop-index.index _ _ (omega (arith, c.loop-index-test.false)) c.loop-index.invariant

pub write_map-returns-in-Ok-true : goal.write_map-returns-in-Ok-true
write_map-returns-in-Ok-true g t c =
    rw (shut_map c.args.map.now (found_equal c.args.map.now _ _ c.in-Ok-true.field-0-test c.in-Ok-true.ensures.found))
    (barred_written _ _ _ c.refuse.ensures)

pub write_map-returns-in-Err : goal.write_map-returns-in-Err
write_map-returns-in-Err g t c = gave_up _ _ _ _ c.in-Err.ensures.memory c.refuse-in-Err.ensures

pub write_map-returns-in_err-begin_map : goal.write_map-returns-in_err-begin_map
write_map-returns-in_err-begin_map g t c =
    map_written c.args.map.now _ _ _ (rw c.in-Ok-false.field-0-test at c.in-Ok-false.ensures.found)
    (open_refused (container_wraps map (flat_map pair_canon (pairs_of c.args.map.now))) _ _ _ _ _ c.in_err-begin_map.was
    (err_from_is_err_and c.from_residual.result c.from_residual.ensures.1) c.begin_map.ensures)

pub write_map-returns-in_err-write_pairs : goal.write_map-returns-in_err-write_pairs
write_map-returns-in_err-write_pairs g t c =
    map_written c.args.map.now _ _ _ (rw c.in-Ok-false.field-0-test at c.in-Ok-false.ensures.found)
    (inner_refused (container_wraps map (flat_map pair_canon (pairs_of c.args.map.now))) _ _ _ _ _ _ _
    c.in_ok-begin_map.was c.in_err-write_pairs.was
    (err_from_is_err_and c.from_residual-in_err-write_pairs.result c.from_residual-in_err-write_pairs.ensures.1)
    c.begin_map.ensures (rw c.as_slice.ensures.value at c.write_pairs.ensures))

pub write_map-returns : goal.write_map-returns
write_map-returns g t c =
    map_written c.args.map.now _ _ _ (rw c.in-Ok-false.field-0-test at c.in-Ok-false.ensures.found)
    (all_written (container_wraps map (flat_map pair_canon (pairs_of c.args.map.now))) _ _ _ _ _ _ _
    c.in_ok-begin_map.was c.in_ok-write_pairs.was c.begin_map.ensures
    (rw c.as_slice.ensures.value at c.write_pairs.ensures) c.end_map.ensures)
