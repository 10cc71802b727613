use Rattle.std.proofs.Common.{false, rules}
use Rattle.amqp_codec.specs.PrimitiveTypes.{long_base}
use Rattle.amqp_codec.proofs.PrimitiveReads.{primitive_read}
use Rattle.amqp_codec.proofs.integers.I64DeserializeTerm.read_value.Goals as goal

pub returns-clause-read : goal.returns-clause-read
returns-clause-read g c tells = primitive_read false long_base (λ v. v) _ _ _ (search rules) (c.read_long.ensures.read tells) c.read_long.ensures.place
