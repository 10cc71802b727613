use Rattle.amqp_placed.proofs.Sums.{restricted_shown}
use Rattle.amqp_placed.proofs.laws.restricted_types.Goals as goal

pub returns : goal.returns
returns c = λ _ e unknown base table told. restricted_shown e base unknown table told
