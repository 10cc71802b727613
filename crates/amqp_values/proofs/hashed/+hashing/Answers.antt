use Rattle.std.proofs.Common.{ap, ◌∙◌}
use Rattle.amqp_model.specs.Term.{list, map, array}
use Rattle.amqp_values.specs.Values.{value_term}
use Rattle.amqp_values.specs.laws.Values.{list_is, array_is, map_is}
use Rattle.amqp_values.specs.Labels.{label}
use Rattle.amqp_values.proofs.ValuesFed.{container_fed}
use Rattle.amqp_values.proofs.hashed.+hashing.Goals as goal

pub hash_value-returns-in-List : goal.hash_value-returns-in-List
hash_value-returns-in-List g t c =
    container_fed g.H.Hasher.write _ _ _ (label c.leaf_of.result) list _ _ (ap value_term c.in-List.is ∙ list_is c.in-List.values)
    c.leaf_of.ensures c.hash.ensures (rw c.as_slice.ensures.value at c.hash_row.ensures)

pub hash_value-returns-in-Map : goal.hash_value-returns-in-Map
hash_value-returns-in-Map g t c =
    container_fed g.H.Hasher.write _ _ _ (label c.leaf_of.result) map _ _ (ap value_term c.in-Map.is ∙ map_is c.in-Map.map)
    c.leaf_of.ensures c.hash.ensures (rw c.as_slice-in-Map.ensures.value at c.hash_pairs.ensures)

pub hash_value-returns-in-Array : goal.hash_value-returns-in-Array
hash_value-returns-in-Array g t c =
    container_fed g.H.Hasher.write _ _ _ (label c.leaf_of.result) array _ _ (ap value_term c.in-Array.is ∙ array_is c.in-Array.values)
    c.leaf_of.ensures c.hash.ensures (rw c.as_slice-in-Array.ensures.value at c.hash_row-in-Array.ensures)
