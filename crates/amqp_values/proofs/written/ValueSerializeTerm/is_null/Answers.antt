use Rattle.std.proofs.Common.{sym}
use Rattle.amqp_values.specs.laws.Canon.{not_null}
use Rattle.amqp_values.proofs.written.ValueSerializeTerm.is_null.Goals as goal

pub returns-in_default : goal.returns-in_default
returns-in_default c = sym (not_null c.args.self.now c.in_default.not-Null)
