use Rattle.amqp_model.proofs.canonical_text_spells.Goals as goal
use Rattle.amqp_model.proofs.Unrefused

pub returns : goal.returns
returns c = record { spelled = Unrefused.unrefused_spells }
