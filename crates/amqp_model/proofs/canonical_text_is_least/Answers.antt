use Rattle.amqp_model.proofs.canonical_text_is_least.Goals as goal
use Rattle.amqp_model.proofs.Least

pub returns : goal.returns
returns c = record { no_longer = Least.text_is_least }
