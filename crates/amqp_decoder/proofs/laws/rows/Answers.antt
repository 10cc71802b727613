use Rattle.amqp_decoder.proofs.ContainerTerms.{row_of_one, row_joined}
use Rattle.amqp_decoder.proofs.laws.rows.Goals as goal

pub returns : goal.returns
returns c = record { one = λ t st after h. (h.bytes, row_of_one t st after h); joined = row_joined }
