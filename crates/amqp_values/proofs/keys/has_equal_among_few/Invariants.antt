use Rattle.amqp_values.proofs.Same.{EqualFrom}
use Rattle.amqp_values.proofs.keys.has_equal_among_few.Given as goal

abbrev pub invariant-loop-index : goal.invariant-loop-index
invariant-loop-index l = EqualFrom l.index l.pairs
