use Rattle.amqp_c.proofs.Paths.{Told}
use Rattle.amqp_c.proofs.path.tell_path.Given as goal

abbrev pub invariant-loop-node : goal.invariant-loop-node
invariant-loop-node l = Told l.input l.at l.fn.room l.room l.outer l.around l.node-iterator l.count
