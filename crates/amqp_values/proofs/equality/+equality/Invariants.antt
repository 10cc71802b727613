use Rattle.amqp_values.proofs.Same.{AsFrom, values_compared, pairs_compared}
use Rattle.amqp_values.proofs.equality.+equality.Given as goal

abbrev pub invariant-same_values-loop-index : goal.invariant-same_values-loop-index
invariant-same_values-loop-index l = AsFrom values_compared l.index l.left l.right

abbrev pub invariant-same_pairs-loop-index : goal.invariant-same_pairs-loop-index
invariant-same_pairs-loop-index l = AsFrom pairs_compared l.index l.left l.right
