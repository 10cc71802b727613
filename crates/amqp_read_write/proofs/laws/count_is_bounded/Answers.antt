use Rattle.amqp_codec.specs.laws.Term.{count_bounded}
use Rattle.amqp_read_write.proofs.laws.count_is_bounded.Goals as goal

pub returns : goal.returns
returns g c = count_bounded g.T.DeserializeTerm.term
