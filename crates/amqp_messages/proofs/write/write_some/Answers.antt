use Rattle.amqp_codec.proofs.Joining.{no_terms}
use Rattle.amqp_messages.proofs.write.write_some.Goals as goal

pub returns-in-None : goal.returns-in-None
returns-in-None g c = rw (c.in-None.is) (no_terms _ _ c.check.ensures)
