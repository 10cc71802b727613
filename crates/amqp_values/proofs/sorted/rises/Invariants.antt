use Rattle.amqp_values.proofs.Rising.{RisesTo}
use Rattle.amqp_values.proofs.sorted.rises.Given as goal

abbrev pub invariant-loop-index : goal.invariant-loop-index
invariant-loop-index g l = RisesTo g.T.Ord.cmp l.index l.items
