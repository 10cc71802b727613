-- The types of this crate: each is as what it is made of.
use Rattle.std.proofs.Common.{refl}
use Rattle.amqp_model.specs.FieldType.{unchanged}
use Rattle.amqp_codec.specs.TermType.{TermType}
use Rattle.amqp_codec.specs.Wrappers.{via}
use Rattle.amqp_codec.specs.PrimitiveTypes.{decimal32_bytes_type, decimal64_bytes_type, decimal128_bytes_type, milliseconds_type}
use Rattle.amqp_codec.specs.PrimitiveTypes.{uuid_bytes_type, binary_bytes_type}
use Rattle.amqp_primitives.specs.declared.dec32.Dec32.{Dec32}
use Rattle.amqp_primitives.specs.declared.dec64.Dec64.{Dec64}
use Rattle.amqp_primitives.specs.declared.dec128.Dec128.{Dec128}
use Rattle.amqp_primitives.specs.declared.timestamp.Timestamp.{Timestamp}
use Rattle.amqp_primitives.specs.declared.uuid.Uuid.{Uuid}
use Rattle.amqp_primitives.specs.declared.binary.Binary.{Binary}

-- Part 1, section 1.6.13
abbrev pub decimal32_type : TermType Dec32
decimal32_type = via decimal32_bytes_type (λ v. v.0) unchanged (λ v. refl)

-- Part 1, section 1.6.14
abbrev pub decimal64_type : TermType Dec64
decimal64_type = via decimal64_bytes_type (λ v. v.0) unchanged (λ v. refl)

-- Part 1, section 1.6.15
abbrev pub decimal128_type : TermType Dec128
decimal128_type = via decimal128_bytes_type (λ v. v.0) unchanged (λ v. refl)

-- Part 1, section 1.6.17
abbrev pub timestamp_type : TermType Timestamp
timestamp_type = via milliseconds_type (λ v. v.0) unchanged (λ v. refl)

-- Part 1, section 1.6.18
abbrev pub uuid_type : TermType Uuid
uuid_type = via uuid_bytes_type (λ v. v.0) unchanged (λ v. refl)

-- Part 1, section 1.6.19
abbrev pub binary_type : TermType Binary
binary_type = via binary_bytes_type (λ v. v.0.items) unchanged (λ v. refl)
