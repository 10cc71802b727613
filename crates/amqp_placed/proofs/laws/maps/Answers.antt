use Rattle.amqp_placed.proofs.Items.{map_shown}
use Rattle.amqp_placed.proofs.laws.maps.Goals as goal

pub returns-clause-by_order : goal.returns-clause-by_order
returns-clause-by_order c = λ _ e other keys values. map_shown _ _ e other keys values

pub returns-clause-as_read : goal.returns-clause-as_read
returns-clause-as_read c = λ _ e other keys values. map_shown _ _ e other keys values
