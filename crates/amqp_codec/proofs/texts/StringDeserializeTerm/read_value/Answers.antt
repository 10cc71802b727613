use Rattle.std.proofs.Common.{true, string_bytes}
use Rattle.std.proofs.lemmas.Str.{IsUtf8-string_bytes}
use Rattle.std.specs.Str.{IsUtf8}
use Rattle.amqp_codec.specs.PrimitiveTypes.{string_base}
use Rattle.amqp_codec.proofs.PrimitiveReads.{when_ok, primitive_read}
use Rattle.amqp_codec.proofs.texts.StringDeserializeTerm.read_value.Goals as goal

pub returns-clause-read : goal.returns-clause-read
returns-clause-read g c tells =
    primitive_read true string_base string_bytes _ _ _ (when_ok (λ v. IsUtf8 (string_bytes v)) (λ v. IsUtf8-string_bytes v) _)
    (c.read_string.ensures.read tells) c.read_string.ensures.place
