use Rattle.amqp_values.specs.Values.{value_term}
use Rattle.amqp_values.proofs.Same.{AmongFrom}
use Rattle.amqp_values.proofs.keys.is_among.Given as goal

abbrev pub invariant-loop-index : goal.invariant-loop-index
invariant-loop-index l = AmongFrom (value_term l.key) l.index l.start l.pairs
