use Rattle.amqp_placed.proofs.Formers.{either_shown}
use Rattle.amqp_placed.proofs.laws.either_of_two.Goals as goal

pub returns : goal.returns
returns c = λ _ e is_first a b. either_shown e is_first c.A.DeserializeTerm.term.faults c.B.DeserializeTerm.term.faults a b
