use Rattle.amqp_codec.specs.laws.Reason.{agreed_text, agreed_writable, agreed_refused}
use Rattle.amqp_read_write.proofs.laws.one_term_is_written.Goals as goal

pub returns-clause-is_value : goal.returns-clause-is_value
returns-clause-is_value g c = g.met.T.DeserializeTerm.agreement.value_to

pub returns-clause-text : goal.returns-clause-text
returns-clause-text g c = agreed_text g.met.T.DeserializeTerm.agreement

pub returns-clause-writable : goal.returns-clause-writable
returns-clause-writable g c = agreed_writable g.met.T.DeserializeTerm.agreement

pub returns-clause-refused : goal.returns-clause-refused
returns-clause-refused g c = agreed_refused g.met.T.DeserializeTerm.agreement
