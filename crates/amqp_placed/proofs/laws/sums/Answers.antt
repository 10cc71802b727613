use Rattle.amqp_placed.proofs.Sums.{sum_shown}
use Rattle.amqp_placed.proofs.laws.sums.Goals as goal

pub returns : goal.returns
returns c = λ _ e shown. sum_shown e c.S.Sum.sum shown
