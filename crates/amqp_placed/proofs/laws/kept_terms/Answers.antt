use Rattle.amqp_placed.proofs.Kept.{term_shown}
use Rattle.amqp_placed.proofs.laws.kept_terms.Goals as goal

pub returns : goal.returns
returns c = term_shown
