use Rattle.std.proofs.Common.{ap, ◌∙◌}
use Rattle.amqp_model.specs.Term.{list, map, array}
use Rattle.amqp_model.specs.Items.{terms_of}
use Rattle.amqp_values.specs.Values.{value_term}
use Rattle.amqp_values.specs.laws.Values.{list_is, array_is, map_is}
use Rattle.amqp_values.specs.Labels.{label}
use Rattle.amqp_values.proofs.ValuesFed.{seen_fed, first_values, first_pairs}
use Rattle.amqp_values.proofs.digest.feed_value.Goals as goal

pub returns-in-List : goal.returns-in-List
returns-in-List g c =
    seen_fed g.H.Hasher.write _ _ _ (label c.leaf_of.result) list _ _ _ (ap value_term c.in-List.is ∙ list_is c.in-List.values)
    c.leaf_of.ensures (first_values 32 c.in-List.values.items) c.feed_leaf.ensures
    (rw (c.first_of.ensures, c.as_slice.ensures.value) at c.feed_row.ensures)

pub returns-in-Map : goal.returns-in-Map
returns-in-Map g c =
    seen_fed g.H.Hasher.write _ _ _ (label c.leaf_of.result) map _ _ _ (ap value_term c.in-Map.is ∙ map_is c.in-Map.map)
    c.leaf_of.ensures (first_pairs 32 c.in-Map.map.0.items) c.feed_leaf.ensures
    (rw (c.first_of-in-Map.ensures, c.as_slice-in-Map.ensures.value) at c.feed_pairs.ensures)

pub returns-in-Array : goal.returns-in-Array
returns-in-Array g c =
    seen_fed g.H.Hasher.write _ _ _ (label c.leaf_of.result) array _ _ _ (ap value_term c.in-Array.is ∙ array_is c.in-Array.values)
    c.leaf_of.ensures (first_values 32 c.in-Array.values.0.items) c.feed_leaf.ensures
    (rw (c.first_of-in-Array.ensures, c.as_slice-in-Array.ensures.value) at c.feed_row-in-Array.ensures)
