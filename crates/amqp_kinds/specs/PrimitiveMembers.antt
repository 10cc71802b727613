-- The primitive types as members of sums (Part 1, section 1.6).
use Rattle.std.proofs.Common.{ℕ, string_bytes, Global}
use Rattle.std.specs.Prelude.{String}
use Rattle.amqp_model.specs.Term.{ulong, uuid, binary, string, symbol}
use Rattle.amqp_wire.specs.declared.symbol.Symbol.{Symbol}
use Rattle.amqp_codec.specs.PrimitiveTypes.{ulong_type}
use Rattle.amqp_codec.specs.Wrappers.{string_type, symbol_type}
use Rattle.amqp_primitives.specs.declared.uuid.Uuid.{Uuid}
use Rattle.amqp_primitives.specs.declared.binary.Binary.{Binary}
use Rattle.amqp_primitives.specs.Types.{uuid_type, binary_type}
use Rattle.amqp_kinds.specs.declared.kind.Kind.TheVariants as kind
use Rattle.amqp_kinds.specs.KindMembers.{PrimitiveMember}

-- Part 1, section 1.6.6
abbrev pub ulong_member : PrimitiveMember ℕ
ulong_member = record { kind = kind.Ulong; primitive = ulong; type = ulong_type; to = λ s t x m. m; from = λ s t x m. m }

-- Part 1, section 1.6.18
abbrev pub uuid_member : PrimitiveMember Uuid
uuid_member = record { kind = kind.Uuid; primitive = λ v. uuid v.0; type = uuid_type; to = λ s t x m. m; from = λ s t x m. m }

-- Part 1, section 1.6.19
abbrev pub binary_member : PrimitiveMember Binary
binary_member =
    record { kind = kind.Binary; primitive = λ v. binary v.0.items; type = binary_type; to = λ s t x m. m; from = λ s t x m. m }

-- Part 1, section 1.6.20
abbrev pub string_member : PrimitiveMember (String Global)
string_member =
    record { kind = kind.String; primitive = λ v. string (string_bytes v); type = string_type; to = λ s t x m. m; from = λ s t x m. m }

-- Part 1, section 1.6.21
abbrev pub symbol_member : PrimitiveMember Symbol
symbol_member =
    record { kind = kind.Symbol; primitive = λ v. symbol (string_bytes v.0); type = symbol_type; to = λ s t x m. m; from = λ s t x m. m }
