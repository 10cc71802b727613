-- The type of maps of values of any kind (Part 1, section 1.6.23).
use Rattle.std.proofs.Common.{true, refl}
use Rattle.amqp_model.specs.FieldType.{unchanged}
use Rattle.amqp_codec.specs.Agreement.{Agreement, via_writing}
use Rattle.amqp_codec.specs.laws.MapReading.{map_faults}
use Rattle.amqp_codec.specs.TermType.{TermType}
use Rattle.amqp_codec.specs.Wrappers.{via}
use Rattle.amqp_values.specs.declared.map.ValueMap.{ValueMap}
use Rattle.amqp_values.specs.declared.value.Value.{Map as MapOf}
use Rattle.amqp_values.specs.ValueWriting.{value_writing}
use Rattle.amqp_values.specs.laws.Canon.{map_not_null}
use Rattle.amqp_values.specs.ValueType.{value_type}

-- A map is as its value of any kind, and its faults are those of a map of values.
abbrev pub value_map_type : TermType ValueMap
value_map_type = record (via value_type MapOf unchanged (λ m. refl)) {
  faults = map_faults value_type value_type;
  is_never_null = true;
  never_null = λ l m. map_not_null m;
}

-- It is written as its type says.
pub value_map_agreement : Agreement value_map_type (via_writing MapOf value_writing)
value_map_agreement = record { canons_is = λ m. refl; value_to = λ m i. i; value_from = λ m i. i }
