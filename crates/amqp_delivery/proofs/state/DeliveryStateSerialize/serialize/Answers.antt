use Rattle.std.proofs.Common.{refl}
use Rattle.amqp_delivery.specs.declared.state.DeliveryState.TheVariants as state
use Rattle.amqp_delivery.proofs.state.DeliveryStateSerialize.serialize.Goals as goal

pub returns-in-Received : goal.returns-in-Received
returns-in-Received g c = c.write_as.ensures.written (state.Received c.in-Received.received) c.in-Received.is refl
