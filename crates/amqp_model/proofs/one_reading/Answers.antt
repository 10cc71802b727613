use Rattle.amqp_model.proofs.one_reading.Goals as goal
use Rattle.amqp_model.proofs.Unique

pub returns : goal.returns
returns c = record { one_front = Unique.one_front; one_term = Unique.one_term }
