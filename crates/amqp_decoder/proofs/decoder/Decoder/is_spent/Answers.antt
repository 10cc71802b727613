use Rattle.amqp_wire.specs.Limits.{limit_of}
use Rattle.amqp_decoder.proofs.Limits.{is_spent_some, is_spent_none}
use Rattle.amqp_decoder.proofs.decoder.Decoder.is_spent.Goals as goal

pub returns-in-Some : goal.returns-in-Some
returns-in-Some g c = rw (← c.self.view_is) (is_spent_some _ c.in-Some.left (limit_of c.self.inside.bytes) c.in-Some.is)

pub returns-in-None : goal.returns-in-None
returns-in-None g c = rw (← c.self.view_is) (is_spent_none _ c.self.inside.bytes c.in-None.is)
