-- Maps from symbols to values of any kind (Part 2, section 2.8.13).
use Rattle.std.specs.Prelude.{List}
use Rattle.amqp_wire.specs.declared.symbol.Symbol.{Symbol}
use Rattle.amqp_codec.specs.TermType.{TermType}
use Rattle.amqp_codec.specs.Wrappers.{symbol_type}
use Rattle.amqp_codec.specs.laws.MapReading.{map_of}
use Rattle.amqp_values.specs.declared.value.Value.{Value}
use Rattle.amqp_values.specs.ValueType.{value_type}

abbrev pub fields_type : TermType (List (Symbol × Value))
fields_type = map_of symbol_type value_type
