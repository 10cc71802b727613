use Rattle.amqp_values.specs.ValueType.{value_type}
use Rattle.amqp_simple_values.specs.SimpleType.{is_container_code, never_simple}
use Rattle.amqp_placed.proofs.Items.{map_shown}
use Rattle.amqp_placed.proofs.Formers.{either_shown}
use Rattle.amqp_placed.proofs.Values.{value_shown, invalid_shown}
use Rattle.amqp_placed.proofs.laws.values.Goals as goal

pub returns-clause-value : goal.returns-clause-value
returns-clause-value c = value_shown

pub returns-clause-map : goal.returns-clause-map
returns-clause-map c = λ e new. map_shown value_type value_type e new (value_shown e new)
    (value_shown e new)

pub returns-clause-simple : goal.returns-clause-simple
returns-clause-simple c = λ e new.
    either_shown e is_container_code never_simple value_type.faults (invalid_shown e) (value_shown e new)
