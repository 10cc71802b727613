-- Annotations are maps from symbols or numbers to values of any kind (Part 3, section 3.2.10).
use Rattle.std.proofs.Common.{List, refl}
use Rattle.std.specs.List.{IsDistinct}
use Rattle.amqp_codec.specs.Agreement.{Agreement, writing_of, agreement}
use Rattle.amqp_codec.specs.laws.Key.{key_of}
use Rattle.amqp_codec.specs.laws.MapReading.{map_of, map_faults}
use Rattle.amqp_codec.specs.MapWriting.{map_writing, map_agreement}
use Rattle.amqp_codec.specs.TermType.{TermType}
use Rattle.amqp_kinds.specs.KindSumType.{kind_sum_type}
use Rattle.amqp_values.specs.declared.value.Value.{Value}
use Rattle.amqp_values.specs.ValueWriting.{value_writing}
use Rattle.amqp_values.specs.ValueType.{value_type, value_agreement}
use Rattle.amqp_annotations.specs.contracts.owned_key.OwnedKeyPartialEq.TheImpl.{ghosts}
use Rattle.amqp_annotations.specs.declared.owned_key.OwnedKey.{OwnedKey}
use Rattle.amqp_annotations.specs.laws.Key.{owned_decide}
use Rattle.amqp_annotations.specs.OwnedKeys.{owned_keys}

abbrev pub annotations_type : TermType (List (OwnedKey × Value))
annotations_type = map_of (kind_sum_type owned_keys) value_type

-- They are written as their type says.
pub annotations_agreement : Agreement annotations_type
    (map_writing (writing_of (kind_sum_type owned_keys) refl) value_writing (IsDistinct ghosts.eq))
annotations_agreement =
    map_agreement (agreement (kind_sum_type owned_keys) refl) value_agreement (key_of refl owned_decide)
    (map_faults (kind_sum_type owned_keys) value_type)
