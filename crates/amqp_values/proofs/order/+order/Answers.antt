use Rattle.std.proofs.Common.{sym, ap, ap₂, ◌∙◌, arith, drop}
use Rattle.std.proofs.lemmas.List.{length-drop}
use Rattle.amqp_values.specs.Values.{value_term}
use Rattle.amqp_values.specs.laws.Values.{list_is, array_is, map_is}
use Rattle.amqp_values.specs.Labels.{label}
use Rattle.amqp_values.specs.Order.{term_cmp}
use Rattle.amqp_values.proofs.Ordered.{differs, level, values_longer, values_shorter, pairs_longer, pairs_shorter}
use Rattle.amqp_values.proofs.order.+order.Goals as goal

pub compare_values-returns-in-Less : goal.compare_values-returns-in-Less
compare_values-returns-in-Less t c =
    sym (differs c.args.left.now c.args.right.now (label c.leaf_of.result) (label c.leaf_of-2.result) _ c.leaf_of.ensures c.leaf_of-2.ensures
    (sym c.cmp.ensures ∙ c.in-Less.is))

pub compare_values-returns-in-Greater : goal.compare_values-returns-in-Greater
compare_values-returns-in-Greater t c =
    sym (differs c.args.left.now c.args.right.now (label c.leaf_of.result) (label c.leaf_of-2.result) _ c.leaf_of.ensures c.leaf_of-2.ensures
    (sym c.cmp.ensures ∙ c.in-Greater.is))

pub compare_values-returns-in-List-List : goal.compare_values-returns-in-List-List
compare_values-returns-in-List-List t c =
    (rw (c.as_slice.ensures.value, c.as_slice-in-List-List.ensures.value) at c.compare_rows.ensures)
    ∙ sym (ap₂ term_cmp
    (ap value_term c.in-List-List.is-0 ∙ list_is c.in-List-List.a)
    (ap value_term c.in-List-List.is-1 ∙ list_is c.in-List-List.b))

pub compare_values-returns-in-Map-Map : goal.compare_values-returns-in-Map-Map
compare_values-returns-in-Map-Map t c =
    (rw (c.as_slice-in-Map-Map.ensures.value, c.as_slice-in-Map-Map-2.ensures.value) at c.compare_pairs.ensures)
    ∙ sym (ap₂ term_cmp
    (ap value_term c.in-Map-Map.is-0 ∙ map_is c.in-Map-Map.a)
    (ap value_term c.in-Map-Map.is-1 ∙ map_is c.in-Map-Map.b))

pub compare_values-returns-in-Array-Array : goal.compare_values-returns-in-Array-Array
compare_values-returns-in-Array-Array t c =
    (rw (c.as_slice-in-Array-Array.ensures.value, c.as_slice-in-Array-Array-2.ensures.value) at c.compare_rows-in-Array-Array.ensures)
    ∙ sym (ap₂ term_cmp
    (ap value_term c.in-Array-Array.is-0 ∙ array_is c.in-Array-Array.a)
    (ap value_term c.in-Array-Array.is-1 ∙ array_is c.in-Array-Array.b))

pub compare_values-returns-in_default-5 : goal.compare_values-returns-in_default-5
compare_values-returns-in_default-5 t c =
    sym (level c.args.left.now c.args.right.now (label c.leaf_of.result) (label c.leaf_of-2.result) (omega arith) c.leaf_of.ensures
    c.leaf_of-2.ensures (sym c.cmp.ensures ∙ c.in-Equal.is))

pub compare_rows-returns-then-index-right : goal.compare_rows-returns-then-index-right
compare_rows-returns-then-index-right t c =
    let i = c.loop-index.index in
    let vs = c.args.left.now in
    let ws = c.args.right.now in
    sym (values_longer (drop i vs) (drop i ws) (omega (arith, length-drop i vs)) (omega (arith, length-drop i ws)))
    ∙ c.loop-index.invariant.left_over

pub compare_rows-returns-then-left-right : goal.compare_rows-returns-then-left-right
compare_rows-returns-then-left-right t c =
    let i = c.loop-index.index in
    let vs = c.args.left.now in
    let ws = c.args.right.now in
    sym (values_shorter (drop i vs) (drop i ws) (omega (arith, length-drop i vs)) (omega (arith, length-drop i ws)))
    ∙ c.loop-index.invariant.left_over

pub compare_pairs-returns-then-index-others : goal.compare_pairs-returns-then-index-others
compare_pairs-returns-then-index-others t c =
    let i = c.loop-index.index in
    let ps = c.args.pairs.now in
    let qs = c.args.others.now in
    sym (pairs_longer (drop i ps) (drop i qs) (omega (arith, length-drop i ps)) (omega (arith, length-drop i qs)))
    ∙ c.loop-index.invariant.left_over

pub compare_pairs-returns-then-pairs-others : goal.compare_pairs-returns-then-pairs-others
compare_pairs-returns-then-pairs-others t c =
    let i = c.loop-index.index in
    let ps = c.args.pairs.now in
    let qs = c.args.others.now in
    sym (pairs_shorter (drop i ps) (drop i qs) (omega (arith, length-drop i ps)) (omega (arith, length-drop i qs)))
    ∙ c.loop-index.invariant.left_over
