use Rattle.amqp_codec.specs.laws.Term.{spelled_again, spelled_own, spelled_value}
use Rattle.amqp_read_write.proofs.laws.canonical_text_is_read_again.Goals as goal

pub returns-clause-again : goal.returns-clause-again
returns-clause-again g c = spelled_again g.T.DeserializeTerm.term

pub returns-clause-own : goal.returns-clause-own
returns-clause-own g c = spelled_own g.T.DeserializeTerm.term

pub returns-clause-values : goal.returns-clause-values
returns-clause-values g c = spelled_value g.T.DeserializeTerm.term
