use Rattle.amqp_placed.proofs.Elements.{array_shown}
use Rattle.amqp_placed.proofs.laws.arrays.Goals as goal

pub returns : goal.returns
returns c = λ _ e shown. array_shown c.T.DeserializeTerm.term.means c.T.DeserializeTerm.term.faults.fault e shown
