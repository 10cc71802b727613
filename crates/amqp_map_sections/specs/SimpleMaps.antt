-- Maps from strings to simple values (Part 3, section 3.2.5).
use Rattle.std.proofs.Common.{List, refl, string_bytes, Global}
use Rattle.std.specs.Prelude.{String}
use Rattle.std.specs.List.{IsDistinct}
use Rattle.std.specs.Str.{bytes_eq}
use Rattle.std.proofs.lemmas.Slice.Eq.{bytes_eq-Decides}
use Rattle.amqp_codec.specs.Agreement.{Agreement, writing_of, agreement}
use Rattle.amqp_codec.specs.laws.Key.{key_of}
use Rattle.amqp_codec.specs.laws.MapReading.{map_of, map_faults}
use Rattle.amqp_codec.specs.MapWriting.{map_writing, map_agreement}
use Rattle.amqp_codec.specs.TermType.{TermType}
use Rattle.amqp_codec.specs.Wrappers.{string_type}
use Rattle.amqp_simple_values.specs.declared.simple.SimpleValue.{SimpleValue}
use Rattle.amqp_simple_values.specs.SimpleType.{simple_type, simple_writing, simple_agreement}

abbrev pub simple_map_type : TermType (List (String Global × SimpleValue))
simple_map_type = map_of string_type simple_type

-- They are written as their type says.
pub simple_map_agreement : Agreement simple_map_type
    (map_writing (writing_of string_type refl) simple_writing (IsDistinct (λ v w. bytes_eq (string_bytes v) (string_bytes w))))
simple_map_agreement =
    map_agreement (agreement string_type refl) simple_agreement
    (key_of refl (λ v w. bytes_eq-Decides (string_bytes v) (string_bytes w)))
    (map_faults string_type simple_type)
