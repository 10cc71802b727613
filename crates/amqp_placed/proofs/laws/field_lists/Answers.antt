use Rattle.amqp_placed.proofs.Fields.{fields_shown}
use Rattle.amqp_placed.proofs.laws.field_lists.Goals as goal

pub returns : goal.returns
returns c = λ _ e shown. fields_shown e _ shown
