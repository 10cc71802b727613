use Rattle.amqp_nodes.specs.Fields.{Passes}
use Rattle.amqp_nodes.proofs.fields.item_node.Given as goal

abbrev pub invariant-items : goal.invariant-items
invariant-items l = Passes l.input l.around l.around.next l.counter l.at
