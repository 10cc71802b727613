use Rattle.amqp_model.proofs.one_text.Goals as goal
use Rattle.amqp_model.proofs.Unrefused

pub returns : goal.returns
returns c = record { one_term = Unrefused.one_text }
