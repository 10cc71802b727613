use Rattle.amqp_model.proofs.no_proper_front.Goals as goal
use Rattle.amqp_model.proofs.Unique

pub returns : goal.returns
returns c = record { whole = Unique.cut }
