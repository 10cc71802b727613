use Rattle.amqp_codec.specs.Wrappers.{in_box}
use Rattle.amqp_codec.proofs.HeldReads.{held_refused}
use Rattle.amqp_codec.proofs.containers.BoxDeserializeTerm.read_value.Goals as goal

pub returns-clause-read : goal.returns-clause-read
returns-clause-read g c tells = held_refused in_box g.T.DeserializeTerm.term _ _ _ (c.in-Err.ensures.read tells)
