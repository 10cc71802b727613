-- How urgent messages are, and the default (Part 3, section 3.2.1).
use Rattle.std.proofs.Common.{◌<◌, ◌^◌, refl, arith}
use Rattle.amqp_model.specs.FieldRules.{DefaultValue}
use Rattle.amqp_codec.specs.FieldTypes.{field_type}
use Rattle.amqp_sums.specs.Types.{TermType, ubyte_type, via, unchanged}
use Rattle.amqp_restricted_types.specs.ToldByDefault.{numbered_default}
use Rattle.amqp_message_headers.specs.declared.priority.Priority.{Priority}

-- a ubyte
abbrev pub priority_type : TermType Priority
priority_type = via ubyte_type (λ v. v.0) unchanged (λ v. refl)

pub in_one_byte : 4 < 2 ^ 8
in_one_byte = omega arith

abbrev pub four_by_default : DefaultValue (field_type priority_type refl refl).meaning
four_by_default =
    numbered_default (field_type priority_type refl refl).meaning (λ v. v.0) (record { 0 = 4 })
    (λ v e. e) (λ v e. e) (λ v. refl) in_one_byte
