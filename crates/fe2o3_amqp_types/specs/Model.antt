-- Terms, the bytes that spell them, and their canonical texts (Part 1, sections 1.2 to 1.6). It defines nothing.
pub use Rattle.amqp_model.specs.Term.{Term, leaf, container, described, kept, barred, Terms, none, more, count}
pub use Rattle.amqp_model.specs.Term.{Primitive, null, boolean, ubyte, ushort, uint, ulong, byte, short, int, long, char, timestamp}
pub use Rattle.amqp_model.specs.Term.{decimal32, decimal64, decimal128, uuid, binary, string, symbol}
pub use Rattle.amqp_model.specs.Term.{Descriptor, name, code, Container, list, map, array}
pub use Rattle.amqp_model.specs.Term.{Refusal, duplicate_key, depth, zero_width_items, non_ascii, empty_multiple, mixed_array, too_large}
pub use Rattle.amqp_model.specs.Term.{lazy_in_array, custom}
pub use Rattle.amqp_model.specs.Constructors.{Format, fixed, variable, compound, unknown, format}
unfoldable pub use Rattle.amqp_model.specs.Spelling.{IsSpelling}
pub use Rattle.amqp_model.specs.Spelling.{IsValid, IsKnown, descriptor_value, IsDataOf, AreElementsOf, AreSharedDataOf}
pub use Rattle.amqp_model.specs.Standing.{Standing, whole, part, Parts}
unfoldable pub use Rattle.amqp_model.specs.Text.{text, texts}
pub use Rattle.amqp_model.specs.Text.{Place, Alone, First, Later, form}
pub use Rattle.amqp_model.specs.Measures.{nest, nests, array_nest, nodes}
pub use Rattle.amqp_model.specs.Ranges.{Everywhere, EverywhereIn, IsInRange, IsValue, IsNoArray, IsBytes}
unfoldable pub use Rattle.amqp_model.specs.Refusals.{Refuses}
pub use Rattle.amqp_model.specs.Refusals.{Somewhere, SomewhereIn, IsRefused}
pub use Rattle.amqp_model.specs.Kept.{ExpandsTo, EachExpandsTo}
pub use Rattle.amqp_model.specs.Items.{terms_of, items_of, is_null}
-- The fields of a composite (Part 1, section 1.4).
unfoldable pub use Rattle.amqp_model.specs.Fields.{Fits, Same, canonical_items}
pub use Rattle.amqp_model.specs.Fields.{AreValues, rules_of, canonical_terms}
pub use Rattle.amqp_model.specs.Composite.{MeansComposite, MeansList, canonical_list, canonical_term}
pub use Rattle.amqp_model.specs.FieldRules.{OptionMeans, SameOption, DefaultMeans, MultipleMeans, SameContents}
