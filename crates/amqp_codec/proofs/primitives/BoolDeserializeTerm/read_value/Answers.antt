use Rattle.std.proofs.Common.{false, rules}
use Rattle.amqp_codec.specs.PrimitiveTypes.{boolean_base}
use Rattle.amqp_codec.proofs.PrimitiveReads.{primitive_read}
use Rattle.amqp_codec.proofs.primitives.BoolDeserializeTerm.read_value.Goals as goal

pub returns-clause-read : goal.returns-clause-read
returns-clause-read g c tells = primitive_read false boolean_base (λ v. v) _ _ _ (search rules) (c.read_bool.ensures.read tells) c.read_bool.ensures.place
