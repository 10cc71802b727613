-- Simple values as values of any kind, and how they are told from lists, maps and arrays.
use Rattle.std.specs.Prelude.{◌≡◌, Bool, true, false, Result, Ok, Err}
use Rattle.amqp_model.specs.Term.{Term}
use Rattle.amqp_wire.specs.declared.error.Error.{Error}
use Rattle.amqp_wire.specs.declared.error.Error.TheVariants.{InvalidValue}
use Rattle.amqp_kinds.specs.declared.kind.Kind.{Kind}
use Rattle.amqp_kinds.specs.declared.kind.Kind.TheVariants as kind
use Rattle.amqp_kinds.specs.Kinds.{term_kind}
use Rattle.amqp_values.specs.declared.value.Value as any
use Rattle.amqp_values.specs.declared.value.Value.{Value}
use Rattle.amqp_values.specs.Values.{value_term}
use Rattle.amqp_simple_values.specs.declared.simple.SimpleValue.{SimpleValue}
use Rattle.amqp_simple_values.specs.declared.simple.SimpleValue.TheVariants as simple

-- The value of any kind that a simple value is.
abbrev pub as_value : SimpleValue → Value
as_value simple.Null = any.Null
as_value (simple.Bool b) = any.Bool b
as_value (simple.Ubyte n) = any.Ubyte n
as_value (simple.Ushort n) = any.Ushort n
as_value (simple.Uint n) = any.Uint n
as_value (simple.Ulong n) = any.Ulong n
as_value (simple.Byte z) = any.Byte z
as_value (simple.Short z) = any.Short z
as_value (simple.Int z) = any.Int z
as_value (simple.Long z) = any.Long z
as_value (simple.Decimal32 d) = any.Decimal32 d
as_value (simple.Decimal64 d) = any.Decimal64 d
as_value (simple.Decimal128 d) = any.Decimal128 d
as_value (simple.Char n) = any.Char n
as_value (simple.Timestamp t) = any.Timestamp t
as_value (simple.Uuid u) = any.Uuid u
as_value (simple.Binary b) = any.Binary b
as_value (simple.String s) = any.String s
as_value (simple.Symbol s) = any.Symbol s
as_value (simple.Described d) = any.Described d

-- The term that a simple value is.
abbrev pub simple_term : SimpleValue → Term
simple_term v = value_term (as_value v)

-- Part 1, sections 1.6.22 to 1.6.24
abbrev pub is_container : Kind → Bool
is_container kind.List = true
is_container kind.Map = true
is_container kind.Array = true
is_container _ = false

-- The answer is the simple value that the value is. A list, a map or an array is none.
abbrev pub Simplifies : Value → Result SimpleValue Error → Type 0
Simplifies v (Ok w) = v ≡ as_value w
Simplifies v (Err e) = (e ≡ InvalidValue) × (is_container (term_kind (value_term v)) ≡ true)
