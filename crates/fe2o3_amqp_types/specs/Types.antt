-- The record of a type: which terms mean its values, and which of them are canonical. It defines nothing.
pub use Rattle.amqp_model.specs.FieldType.{Norm, unchanged, by_norm, normal}
pub use Rattle.amqp_codec.specs.TermType.{TermType, IsUnrefused}
pub use Rattle.amqp_codec.specs.Agreement.{Agreement, writing_of, one_term, agreement}
pub use Rattle.amqp_codec.specs.Keys.{IsKey, ComparesTexts}
-- Part 1, section 1.6
pub use Rattle.amqp_codec.specs.PrimitiveTypes.{null_type, boolean_type, ubyte_type, ushort_type, uint_type, ulong_type}
pub use Rattle.amqp_codec.specs.PrimitiveTypes.{byte_type, short_type, int_type, long_type, char_type}
pub use Rattle.amqp_codec.specs.Wrappers.{string_type, symbol_type}
pub use Rattle.amqp_primitives.specs.Types.{binary_type, decimal32_type, decimal64_type, decimal128_type, timestamp_type, uuid_type}
pub use Rattle.amqp_values.specs.ValueType.{value_type}
pub use Rattle.amqp_values.specs.ValueMapType.{value_map_type}
pub use Rattle.amqp_simple_values.specs.SimpleType.{simple_type}
pub use Rattle.amqp_lazy.specs.LazyType.{lazy_type, SpellsTerm}
-- Types of parts.
pub use Rattle.amqp_codec.specs.OptionType.{option_of}
pub use Rattle.amqp_codec.specs.Wrappers.{Holds, via, boxed, reference_counted}
pub use Rattle.amqp_codec.specs.VecType.{vec_of}
pub use Rattle.amqp_codec.specs.BTreeMapType.{btree_map_of}
pub use Rattle.amqp_containers.specs.ArrayType.{array_of}
pub use Rattle.amqp_described.specs.DescribedType.{described_of}
-- Parts 2 to 5: restricted types, and the types of maps.
pub use Rattle.amqp_restricted_types.specs.Transport.{role_type, sender_settle_mode_type, receiver_settle_mode_type, handle_type}
pub use Rattle.amqp_restricted_types.specs.Transport.{max_frame_size_type, channel_max_type}
pub use Rattle.amqp_restricted_types.specs.Termini.{terminus_durability_type, terminus_expiry_policy_type, distribution_mode_type}
pub use Rattle.amqp_restricted_types.specs.Transactions.{txn_capability_type}
pub use Rattle.amqp_restricted_types.specs.Security.{sasl_code_type}
pub use Rattle.amqp_errors.specs.Conditions.{amqp_error_type, connection_error_type, session_error_type, link_error_type}
pub use Rattle.amqp_errors.specs.Conditions.{transaction_error_type, condition_type}
pub use Rattle.amqp_message_headers.specs.Priorities.{priority_type}
pub use Rattle.amqp_message_headers.specs.MessageIds.{message_id_type}
pub use Rattle.amqp_errors.specs.FieldsType.{fields_type}
pub use Rattle.amqp_annotations.specs.AnnotationsType.{annotations_type}
pub use Rattle.amqp_map_sections.specs.SimpleMaps.{simple_map_type}
