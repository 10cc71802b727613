use Rattle.std.proofs.Common.{false, rules}
use Rattle.amqp_codec.specs.PrimitiveTypes.{short_base}
use Rattle.amqp_codec.proofs.PrimitiveReads.{primitive_read}
use Rattle.amqp_codec.proofs.integers.I16DeserializeTerm.read_value.Goals as goal

pub returns-clause-read : goal.returns-clause-read
returns-clause-read g c tells = primitive_read false short_base (λ v. v) _ _ _ (search rules) (c.read_short.ensures.read tells) c.read_short.ensures.place
