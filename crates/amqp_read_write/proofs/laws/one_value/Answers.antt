use Rattle.amqp_codec.specs.laws.Term.{one_value}
use Rattle.amqp_read_write.proofs.laws.one_value.Goals as goal

pub returns-clause-value : goal.returns-clause-value
returns-clause-value g c = λ b d x y v w h k e. (one_value g.T.DeserializeTerm.term b d x y v w h k e).0

pub returns-clause-front : goal.returns-clause-front
returns-clause-front g c = λ b d x y v w h k e. (one_value g.T.DeserializeTerm.term b d x y v w h k e).1
