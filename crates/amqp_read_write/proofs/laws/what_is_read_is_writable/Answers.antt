use Rattle.amqp_codec.specs.laws.Term.{spelled_writable}
use Rattle.amqp_read_write.proofs.laws.what_is_read_is_writable.Goals as goal

pub returns : goal.returns
returns g c = spelled_writable g.T.DeserializeTerm.term
