use Rattle.amqp_bodies.specs.StrippedBodies.{AreAll}
use Rattle.amqp_bodies.proofs.transpose.all_items.Given as goal

abbrev pub invariant-loop-item : goal.invariant-loop-item
invariant-loop-item g l = AreAll l.yielded l.values.items
