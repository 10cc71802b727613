-- The words in which the tables of types are told, passed on from one place. It defines nothing.
pub use Rattle.std.proofs.Common.{inl, inr, codes, refl, rules}
pub use Rattle.amqp_model.specs.FieldType.{unchanged, by_norm}
pub use Rattle.amqp_codec.specs.TermType.{TermType}
pub use Rattle.amqp_codec.specs.PrimitiveTypes.{boolean_base, ubyte_base, ushort_base, uint_base, boolean_type, ubyte_type, ushort_type}
pub use Rattle.amqp_codec.specs.PrimitiveTypes.{uint_type, ulong_type, byte_type, short_type, int_type, long_type, char_type}
pub use Rattle.amqp_codec.specs.Wrappers.{via, boxed, string_type, symbol_type}
pub use Rattle.amqp_codec.specs.OptionType.{option_of}
pub use Rattle.amqp_codec.specs.Slots.{mandatory, optional, default}
pub use Rattle.amqp_codec.specs.Fields.{Fields, none, field, ◌▸◌}
pub use Rattle.amqp_codec.specs.ListType.{ListTable, list_of}
pub use Rattle.amqp_codec.specs.Composite.{Table, fields_of, names_of, composite}
pub use Rattle.amqp_codec.specs.Fieldless.{fieldless, has_none}
pub use Rattle.amqp_codec.specs.PlainTable.{plain}
pub use Rattle.amqp_sums.specs.Choices.{Choices, no_more, member, Chosen, SumOf, sum_of, sum_writing, sum_one, sum_agreement}
pub use Rattle.amqp_sums.specs.Restricted.{IsDistinct, restricted_number, restricted_text}
pub use Rattle.amqp_codec.specs.Agreement.{writing_of, one_term, agreement}
