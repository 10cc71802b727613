use Rattle.std.proofs.Common.{◌+◌, ◌*◌, ◌<◌, true, false, length, sym, ap, ◌∙◌, subst, subst₂, arith}
use Rattle.std.proofs.lemmas.List.{length-drop}
use Rattle.amqp_model.specs.Term.{count}
use Rattle.amqp_model.specs.Spelling.{AreItemsOf, AreElementsOf}
use Rattle.amqp_model.specs.Measures.{nests, array_nest}
use Rattle.amqp_wire.specs.Containers.{container_of}
use Rattle.amqp_lengths.specs.Pieces.{width_of}
use Rattle.amqp_lengths.specs.Lengths.{levels_of}
use Rattle.amqp_lengths.specs.Measured.{capped, Begins, AllMeasured, Measurable, AllMeasurable}
use Rattle.amqp_lengths.proofs.Fronts.{tail_all}
use Rattle.amqp_lengths.proofs.Terms.{constructs_known}
use Rattle.amqp_lengths.proofs.Containers.{content_length, width_some}
use Rattle.amqp_lengths.proofs.Measured.{greater, Whole, Data, Items, terms_joined, items_joined, begins_within, all_fit, Left, next_fits, sums_fit}
use Rattle.amqp_lengths.proofs.Measured.{left_more, left_none, term_there, term_data, term_measured, primitive_there, primitive_measured}
use Rattle.amqp_lengths.proofs.Measured.{container_there, container_content, container_measured, elements_there, elements_shared}
use Rattle.amqp_lengths.proofs.Measured.{elements_measured}
use Rattle.amqp_lengths.proofs.RefusedBytes.{constructor_refuses}
use Rattle.amqp_lengths.proofs.measures.+measure.Goals as goal

pub measure_term-unreachable-requires : goal.measure_term-unreachable-requires
measure_term-unreachable-requires t c = term_there c.args.input.now _ c.requires (constructor_refuses _ _ _ c.in_default.ensures.fault)

pub measure_term-measure_data-data-requires : goal.measure_term-measure_data-data-requires
measure_term-measure_data-data-requires t c =
    let s = c.in-Ok.shared in
    let found = c.in-Ok.ensures.found in (
      omega (arith, ap length (tail_all s.len c.args.input.now), length-drop s.len c.args.input.now),
      (
        constructs_known s.descriptors s.code _ found.spelled,
        subst (Measurable (Data s.code)) (sym (tail_all s.len c.args.input.now))
            (term_data s.descriptors s.code s.len c.args.input.now found c.requires),
      ),
    )

pub measure_term-overflow_add-result : goal.measure_term-overflow_add-result
measure_term-overflow_add-result t c =
    let s = c.in-Ok.shared in
    let data_ = c.measure_data-data.result in
    let begins = subst (λ b. Begins (Data s.code) b data_.len data_.nodes data_.nesting data_.weight) (tail_all s.len c.args.input.now)
    c.measure_data-data.ensures in
    let within = begins_within Whole c.args.input.now (s.len + data_.len) data_.nodes (s.descriptors + data_.nesting) data_.weight c.requires
    (term_measured s.descriptors s.code s.len _ _ _ _ c.args.input.now c.in-Ok.ensures.found begins) in
    omega (arith, within.0)

pub measure_term-overflow_add-result-2 : goal.measure_term-overflow_add-result-2
measure_term-overflow_add-result-2 t c =
    let s = c.in-Ok.shared in
    let data_ = c.measure_data-data.result in
    let begins = subst (λ b. Begins (Data s.code) b data_.len data_.nodes data_.nesting data_.weight) (tail_all s.len c.args.input.now)
    c.measure_data-data.ensures in
    let within = begins_within Whole c.args.input.now (s.len + data_.len) data_.nodes (s.descriptors + data_.nesting) data_.weight c.requires
    (term_measured s.descriptors s.code s.len _ _ _ _ c.args.input.now c.in-Ok.ensures.found begins) in
    omega (arith, within.1.1)

pub measure_term-returns : goal.measure_term-returns
measure_term-returns t c =
    let s = c.in-Ok.shared in
    let data_ = c.measure_data-data.result in
    let begins = subst (λ b. Begins (Data s.code) b data_.len data_.nodes data_.nesting data_.weight) (tail_all s.len c.args.input.now)
    c.measure_data-data.ensures in
    term_measured s.descriptors s.code s.len _ _ _ _ c.args.input.now c.in-Ok.ensures.found begins

pub measure_data-returns-in-Some : goal.measure_data-returns-in-Some
measure_data-returns-in-Some t c = c.measure_container.ensures c.args.code c.in-Some.ensures

pub measure_data-unreachable-requires : goal.measure_data-unreachable-requires
measure_data-unreachable-requires t c =
    primitive_there c.args.code c.args.input.now _ c.in_default.ensures c.requires.begins c.in_default-primitive_len.ensures.refused

pub measure_data-returns : goal.measure_data-returns
measure_data-returns t c = primitive_measured c.args.code c.in-Ok.len c.args.input.now c.in_default.ensures c.in-Ok.ensures.found

pub measure_container-unreachable-requires : goal.measure_container-unreachable-requires
measure_container-unreachable-requires t c =
    let (code, is, h) = c.requires in
    container_there (container_of c.args.container) code (width_of c.args.wide) c.args.input.now _ is h c.in_default.ensures.refused

pub measure_container-measure_content-items-requires : goal.measure_container-measure_content-items-requires
measure_container-measure_content-items-requires t c =
    let (code, is, h) = c.requires in
    let parts = c.in-Ok.parts in
    let less = content_length (container_of c.args.container) (width_of c.args.wide) parts.count parts.len parts.items.now c.args.input.now
    (width_some c.args.wide) c.in-Ok.ensures.found in (
      omega (arith, less),
      container_content (container_of c.args.container) code (width_of c.args.wide) parts.count parts.len parts.items.now c.args.input.now is
          c.in-Ok.ensures.found h,
    )

pub measure_container-overflow_add-result : goal.measure_container-overflow_add-result
measure_container-overflow_add-result t c =
    let (code, is, h) = c.requires in
    let parts = c.in-Ok.parts in
    let items = c.measure_content-items.result in
    let within = begins_within (Data code) c.args.input.now parts.len (1 + items.nodes) items.nesting (capped (items.weight + 1)) h
    (container_measured (container_of c.args.container) code (width_of c.args.wide) parts.count parts.len items.nodes items.nesting items.weight
    parts.items.now c.args.input.now is c.in-Ok.ensures.found c.measure_content-items.ensures) in
    omega (arith, within.1.0)

pub measure_container-returns : goal.measure_container-returns
measure_container-returns t c code is =
    let parts = c.in-Ok.parts in
    let items = c.measure_content-items.result in
    subst (Begins (Data code) c.args.input.now parts.len (1 + items.nodes) items.nesting) (sym c.saturating_add.ensures)
    (container_measured (container_of c.args.container) code (width_of c.args.wide) parts.count parts.len items.nodes items.nesting items.weight
    parts.items.now c.args.input.now is c.in-Ok.ensures.found c.measure_content-items.ensures)

pub measure_items-measure_term-item-requires : goal.measure_items-measure_term-item-requires
measure_items-measure_term-item-requires t c =
    let (ts, l, s, fits) = c.requires in
    let i = c.loop-done in
    let less : i.done < count ts = omega (arith, l, c.loop-done-test.true) in (
      omega (arith, ap length (tail_all i.len c.args.content.now), length-drop i.len c.args.content.now),
      subst (Measurable Whole) (sym (tail_all i.len c.args.content.now))
          (next_fits Whole AreItemsOf terms_joined ts c.args.content.now i.done i.len i.nodes i.nesting i.weight less (i.invariant ts l s) fits),
    )

pub measure_items-overflow_add-len : goal.measure_items-overflow_add-len
measure_items-overflow_add-len t c =
    let (ts, l, s, fits) = c.requires in
    let i = c.loop-done in
    let item = c.measure_term-item.result in
    let less : i.done < count ts = omega (arith, l, c.loop-done-test.true) in
    let begins = subst (λ b. Begins Whole b item.len item.nodes item.nesting item.weight) (tail_all i.len c.args.content.now)
    c.measure_term-item.ensures in
    let sums = sums_fit Whole AreItemsOf terms_joined ts c.args.content.now i.done i.len i.nodes i.nesting i.weight item.len item.nodes
    item.nesting item.weight less (i.invariant ts l s) fits begins in
    omega (arith, sums.0)

pub measure_items-overflow_add-nodes : goal.measure_items-overflow_add-nodes
measure_items-overflow_add-nodes t c =
    let (ts, l, s, fits) = c.requires in
    let i = c.loop-done in
    let item = c.measure_term-item.result in
    let less : i.done < count ts = omega (arith, l, c.loop-done-test.true) in
    let begins = subst (λ b. Begins Whole b item.len item.nodes item.nesting item.weight) (tail_all i.len c.args.content.now)
    c.measure_term-item.ensures in
    let sums = sums_fit Whole AreItemsOf terms_joined ts c.args.content.now i.done i.len i.nodes i.nesting i.weight item.len item.nodes
    item.nesting item.weight less (i.invariant ts l s) fits begins in
    omega (arith, sums.1)

pub measure_items-loop-done-preserved : goal.measure_items-loop-done-preserved
measure_items-loop-done-preserved t c ts l s =
    let i = c.loop-done in
    let item = c.measure_term-item.result in
    let less : i.done < count ts = omega (arith, l, c.loop-done-test.true) in
    let begins = subst (λ b. Begins Whole b item.len item.nodes item.nesting item.weight) (tail_all i.len c.args.content.now)
    c.measure_term-item.ensures in
    let top = c.max-nesting.ensures ∙ greater i.nesting item.nesting in
    subst₂ (Left AreItemsOf ts c.args.content.now (i.done + 1) (i.len + item.len) (i.nodes + item.nodes)) (sym top)
    (sym c.saturating_add-weight.ensures)
    (left_more Whole AreItemsOf terms_joined ts c.args.content.now i.done i.len i.nodes i.nesting i.weight item.len item.nodes item.nesting
    item.weight less (i.invariant ts l s) begins)

pub measure_items-returns : goal.measure_items-returns
measure_items-returns t c ts l s =
    let i = c.loop-done in
    left_none AreItemsOf ts c.args.content.now i.done i.len i.nodes i.nesting i.weight (omega (arith, l, c.loop-done-test.false))
    (i.invariant ts l s)

pub measure_shared-measure_data-item-requires : goal.measure_shared-measure_data-item-requires
measure_shared-measure_data-item-requires t c =
    let (ts, l, s, fits) = c.requires.items in
    let i = c.loop-done in
    let less : i.done < count ts = omega (arith, l, c.loop-done-test.true) in (
      omega (arith, ap length (tail_all i.len c.args.content.now), length-drop i.len c.args.content.now),
      (
        c.requires.known,
        subst (Measurable (Data c.args.code)) (sym (tail_all i.len c.args.content.now))
            (next_fits (Data c.args.code) (Items c.args.code) (items_joined c.args.code) ts c.args.content.now i.done i.len i.nodes i.nesting
            i.weight less (i.invariant ts l s) fits),
      ),
    )

pub measure_shared-loop-done-preserved : goal.measure_shared-loop-done-preserved
measure_shared-loop-done-preserved t c ts l s =
    let i = c.loop-done in
    let item = c.measure_data-item.result in
    let less : i.done < count ts = omega (arith, l, c.loop-done-test.true) in
    let begins = subst (λ b. Begins (Data c.args.code) b item.len item.nodes item.nesting item.weight) (tail_all i.len c.args.content.now)
    c.measure_data-item.ensures in
    let top = c.max-nesting.ensures ∙ greater i.nesting item.nesting in
    subst₂ (Left (Items c.args.code) ts c.args.content.now (i.done + 1) (i.len + item.len) (i.nodes + item.nodes)) (sym top)
    (sym c.saturating_add-weight.ensures)
    (left_more (Data c.args.code) (Items c.args.code) (items_joined c.args.code) ts c.args.content.now i.done i.len i.nodes i.nesting i.weight
    item.len item.nodes item.nesting item.weight less (i.invariant ts l s) begins)

pub measure_shared-returns : goal.measure_shared-returns
measure_shared-returns t c ts l s =
    let i = c.loop-done in
    left_none (Items c.args.code) ts c.args.content.now i.done i.len i.nodes i.nesting i.weight (omega (arith, l, c.loop-done-test.false))
    (i.invariant ts l s)

pub measure_elements-unreachable-requires : goal.measure_elements-unreachable-requires
measure_elements-unreachable-requires t c =
    elements_there c.args.count c.args.content.now _ c.if-count-eq0.false c.requires (constructor_refuses _ _ _ c.in_default.ensures.fault)

pub measure_elements-measure_shared-items-requires : goal.measure_elements-measure_shared-items-requires
measure_elements-measure_shared-items-requires t c =
    let s = c.in-Ok.shared in
    let found = c.in-Ok.ensures.found in (
      omega (arith, ap length (tail_all s.len c.args.content.now), length-drop s.len c.args.content.now),
      (
        constructs_known s.descriptors s.code _ found.spelled,
        subst (AllMeasurable (Items s.code) nests c.args.count) (sym (tail_all s.len c.args.content.now))
            (elements_shared s.descriptors s.code c.args.count s.len c.args.content.now found c.if-count-eq0.false c.requires),
      ),
    )

pub measure_elements-overflow_add-result : goal.measure_elements-overflow_add-result
measure_elements-overflow_add-result t c =
    let s = c.in-Ok.shared in
    let items = c.measure_shared-items.result in
    let all = subst (λ b. AllMeasured (Items s.code) nests false c.args.count b items.nodes items.nesting items.weight)
    (tail_all s.len c.args.content.now) c.measure_shared-items.ensures in
    let fits = all_fit AreElementsOf array_nest true c.args.count c.args.content.now items.nodes
    (levels_of s.descriptors s.code + items.nesting) (capped (items.weight + capped (c.shares_of.result * c.args.count))) c.requires
    (elements_measured s.descriptors s.code c.args.count s.len items.nodes items.nesting items.weight c.shares_of.result c.args.content.now
    c.in-Ok.ensures.found c.if-count-eq0.false c.shares_of.ensures all) in
    omega (arith, fits.1, c.levels_of.ensures)

pub measure_elements-returns : goal.measure_elements-returns
measure_elements-returns t c =
    let s = c.in-Ok.shared in
    let items = c.measure_shared-items.result in
    let all = subst (λ b. AllMeasured (Items s.code) nests false c.args.count b items.nodes items.nesting items.weight)
    (tail_all s.len c.args.content.now) c.measure_shared-items.ensures in
    let weight = c.saturating_add.ensures ∙ ap (λ x. capped (items.weight + x)) c.saturating_mul-shares.ensures in
    subst₂ (λ k. AllMeasured AreElementsOf array_nest true c.args.count c.args.content.now items.nodes (k + items.nesting))
    (sym c.levels_of.ensures) (sym weight)
    (elements_measured s.descriptors s.code c.args.count s.len items.nodes items.nesting items.weight c.shares_of.result c.args.content.now
    c.in-Ok.ensures.found c.if-count-eq0.false c.shares_of.ensures all)
