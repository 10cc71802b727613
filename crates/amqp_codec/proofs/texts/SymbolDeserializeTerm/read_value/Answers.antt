use Rattle.std.proofs.Common.{true, rules, string_bytes}
use Rattle.amqp_codec.specs.PrimitiveTypes.{symbol_base}
use Rattle.amqp_codec.proofs.PrimitiveReads.{primitive_read}
use Rattle.amqp_codec.proofs.texts.SymbolDeserializeTerm.read_value.Goals as goal

pub returns-clause-read : goal.returns-clause-read
returns-clause-read g c tells = primitive_read true symbol_base (λ v. string_bytes v.0) _ _ _ (search rules) (c.read_symbol.ensures.read tells) c.read_symbol.ensures.place
