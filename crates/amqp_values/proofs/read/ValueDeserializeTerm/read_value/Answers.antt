use Rattle.std.proofs.Common.{suc, arith}
use Rattle.amqp_values.proofs.ValueSteps.{at_level}
use Rattle.amqp_values.proofs.read.ValueDeserializeTerm.read_value.Goals as goal

pub returns-clause-read : goal.returns-clause-read
returns-clause-read g c tells = at_level (suc 129) _ _ _ (c.read_any.ensures.read tells (omega (arith, c.room.ensures.limit)))
