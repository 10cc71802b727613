use Rattle.amqp_codec.specs.laws.Spelling.{read_within}
use Rattle.amqp_read_write.proofs.laws.limits_bound_reading.Goals as goal

pub returns : goal.returns
returns g c = read_within g.T.DeserializeTerm.term
