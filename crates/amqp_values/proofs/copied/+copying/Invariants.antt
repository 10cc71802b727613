use Rattle.std.proofs.Common.{◌≡◌, map, take}
use Rattle.amqp_values.specs.Copies.{terms_of_pair}
use Rattle.amqp_values.specs.Values.{value_term}
use Rattle.amqp_values.proofs.copied.+copying.Given as goal

abbrev pub invariant-copy_values-loop-index : goal.invariant-copy_values-loop-index
invariant-copy_values-loop-index l = map value_term l.copies.items ≡ map value_term (take l.index l.values.items)

abbrev pub invariant-copy_pairs-loop-index : goal.invariant-copy_pairs-loop-index
invariant-copy_pairs-loop-index l = map terms_of_pair l.copies.items ≡ map terms_of_pair (take l.index l.pairs.items)
