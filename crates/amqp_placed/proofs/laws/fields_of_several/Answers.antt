use Rattle.amqp_placed.proofs.Several.{multiple_shown, mandatory_shown}
use Rattle.amqp_placed.proofs.laws.fields_of_several.Goals as goal

pub returns-clause-any_number : goal.returns-clause-any_number
returns-clause-any_number c = λ _ e shown. multiple_shown e c.T.DeserializeTerm.term shown

pub returns-clause-at_least_one : goal.returns-clause-at_least_one
returns-clause-at_least_one c = λ _ e shown. mandatory_shown e c.T.DeserializeTerm.term shown
