use Rattle.amqp_decoder.proofs.OneReading.{value_same}
use Rattle.amqp_decoder.proofs.Peeks.{value-peeked}
use Rattle.amqp_decoder.proofs.laws.one_value.Goals as goal

pub returns : goal.returns
returns g c = record { one = value_same g.T.HasMeaning.means; looked = value-peeked g.T.HasMeaning.means }
