use Rattle.amqp_codec.specs.laws.Term.{text_least}
use Rattle.amqp_read_write.proofs.laws.canonical_text_is_least.Goals as goal

pub returns : goal.returns
returns g c = text_least g.T.DeserializeTerm.term
