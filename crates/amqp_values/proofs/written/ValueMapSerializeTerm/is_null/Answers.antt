use Rattle.std.proofs.Common.{sym}
use Rattle.amqp_values.specs.laws.Canon.{map_not_null}
use Rattle.amqp_values.proofs.written.ValueMapSerializeTerm.is_null.Goals as goal

pub returns : goal.returns
returns c = sym (map_not_null c.args.self.now)
