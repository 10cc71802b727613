-- The tables of headers and of properties (Part 3, sections 3.2.1 and 3.2.4).
use Rattle.amqp_sums.specs.Types.{codes, refl, boolean_type, uint_type, string_type, symbol_type, optional, default, none, field, ◌▸◌, plain}
use Rattle.amqp_sums.specs.Types.{Table}
use Rattle.amqp_primitives.specs.Types.{binary_type, timestamp_type}
use Rattle.amqp_restricted_types.specs.Defaults.{false_by_default}
use Rattle.amqp_restricted_types.specs.TerminiDefaults.{zero_by_default}
use Rattle.amqp_message_headers.specs.declared.header.Header.{Header}
use Rattle.amqp_message_headers.specs.declared.properties.Properties.{Properties}
use Rattle.amqp_message_headers.specs.MessageIds.{message_id_type}
use Rattle.amqp_message_headers.specs.Priorities.{priority_type, four_by_default}

-- Part 3, section 3.2.1
abbrev pub header : Table Header
header = plain 0x70 (codes "amqp:header:list")
    (field (λ v. v.durable) (default boolean_type refl refl false_by_default)
    ▸ field (λ v. v.priority) (default priority_type refl refl four_by_default)
    ▸ field (λ v. v.ttl) (optional uint_type refl refl)
    ▸ field (λ v. v.first_acquirer) (default boolean_type refl refl false_by_default)
    ▸ field (λ v. v.delivery_count) (default uint_type refl refl zero_by_default)
    ▸ none)
    refl refl

-- Part 3, section 3.2.4
abbrev pub properties : Table Properties
properties = plain 0x73 (codes "amqp:properties:list")
    (field (λ v. v.message_id) (optional message_id_type refl refl)
    ▸ field (λ v. v.user_id) (optional binary_type refl refl)
    ▸ field (λ v. v.to) (optional string_type refl refl)
    ▸ field (λ v. v.subject) (optional string_type refl refl)
    ▸ field (λ v. v.reply_to) (optional string_type refl refl)
    ▸ field (λ v. v.correlation_id) (optional message_id_type refl refl)
    ▸ field (λ v. v.content_type) (optional symbol_type refl refl)
    ▸ field (λ v. v.content_encoding) (optional symbol_type refl refl)
    ▸ field (λ v. v.absolute_expiry_time) (optional timestamp_type refl refl)
    ▸ field (λ v. v.creation_time) (optional timestamp_type refl refl)
    ▸ field (λ v. v.group_id) (optional string_type refl refl)
    ▸ field (λ v. v.group_sequence) (optional uint_type refl refl)
    ▸ field (λ v. v.reply_to_group_id) (optional string_type refl refl)
    ▸ none)
    refl refl
