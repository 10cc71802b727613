use Rattle.std.proofs.Common.{refl, add-one}
use Rattle.amqp_nodes.proofs.fields.item_node.Goals as goal

pub items-preserved : goal.items-preserved
items-preserved c = rw (add-one c.items.counter) (c.items.at, c.in_ok-at.field-0, c.items.invariant, c.in_ok-at.ensures.found, refl)
