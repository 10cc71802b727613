use Rattle.amqp_placed.proofs.Formers.{option_shown}
use Rattle.amqp_placed.proofs.Described.{described_value_shown}
use Rattle.amqp_placed.proofs.Items.{items_shown}
use Rattle.amqp_placed.proofs.laws.values_held.Goals as goal

pub returns-clause-option : goal.returns-clause-option
returns-clause-option c = λ _ e shown. option_shown e c.T.DeserializeTerm.term.faults.fault shown

pub returns-clause-boxed : goal.returns-clause-boxed
returns-clause-boxed c = λ _ e shown. shown

pub returns-clause-counted : goal.returns-clause-counted
returns-clause-counted c = λ _ e shown. shown

pub returns-clause-described : goal.returns-clause-described
returns-clause-described c = λ _ e shown. described_value_shown e c.T.DeserializeTerm.term.faults.fault shown

pub returns-clause-list : goal.returns-clause-list
returns-clause-list c = λ _ e shown. items_shown c.T.DeserializeTerm.term.means c.T.DeserializeTerm.term.faults.fault e shown
