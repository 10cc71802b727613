use Rattle.amqp_codec.specs.laws.Term.{text_unchanged}
use Rattle.amqp_codec.specs.laws.Term as laws
use Rattle.amqp_read_write.proofs.laws.one_text_for_one_value.Goals as goal

pub returns-clause-apart : goal.returns-clause-apart
returns-clause-apart g c = laws.apart g.T.DeserializeTerm.term

pub returns-clause-unchanged : goal.returns-clause-unchanged
returns-clause-unchanged g c = text_unchanged g.T.DeserializeTerm.term

pub returns-clause-same : goal.returns-clause-same
returns-clause-same g c = laws.same_text g.T.DeserializeTerm.term
