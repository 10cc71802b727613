use Rattle.std.proofs.Common.{sym, ap, ap₂, ◌∙◌}
use Rattle.amqp_codec.specs.EqualKeys.{same_term}
use Rattle.amqp_values.specs.Values.{value_term}
use Rattle.amqp_values.specs.laws.Values.{list_is, array_is, map_is}
use Rattle.amqp_values.proofs.Same.{other_length, values_compared, pairs_compared}
use Rattle.amqp_values.proofs.equality.+equality.Goals as goal

pub same_pairs-returns-then-left-right : goal.same_pairs-returns-then-left-right
same_pairs-returns-then-left-right t c =
    sym (other_length pairs_compared c.args.left.now c.args.right.now c.if-left-right.true)

pub same_values-returns-then-left-right : goal.same_values-returns-then-left-right
same_values-returns-then-left-right t c =
    sym (other_length values_compared c.args.left.now c.args.right.now c.if-left-right.true)

pub same_value-returns-in-List-List : goal.same_value-returns-in-List-List
same_value-returns-in-List-List t c =
    (rw (c.as_slice.ensures.value, c.as_slice-in-List-List.ensures.value) at c.same_values.ensures)
    ∙ sym (ap₂ same_term
    (ap value_term c.in-List-List.is-0 ∙ list_is c.in-List-List.a)
    (ap value_term c.in-List-List.is-1 ∙ list_is c.in-List-List.b))

pub same_value-returns-in-Map-Map : goal.same_value-returns-in-Map-Map
same_value-returns-in-Map-Map t c =
    (rw (c.as_slice-in-Map-Map.ensures.value, c.as_slice-in-Map-Map-2.ensures.value) at c.same_pairs.ensures)
    ∙ sym (ap₂ same_term
    (ap value_term c.in-Map-Map.is-0 ∙ map_is c.in-Map-Map.a)
    (ap value_term c.in-Map-Map.is-1 ∙ map_is c.in-Map-Map.b))

pub same_value-returns-in-Array-Array : goal.same_value-returns-in-Array-Array
same_value-returns-in-Array-Array t c =
    (rw (c.as_slice-in-Array-Array.ensures.value, c.as_slice-in-Array-Array-2.ensures.value) at c.same_values-in-Array-Array.ensures)
    ∙ sym (ap₂ same_term
    (ap value_term c.in-Array-Array.is-0 ∙ array_is c.in-Array-Array.a)
    (ap value_term c.in-Array-Array.is-1 ∙ array_is c.in-Array-Array.b))
