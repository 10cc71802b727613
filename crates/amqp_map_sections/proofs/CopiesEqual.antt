-- A copy of what stands in a map is equal to it.
use Rattle.std.proofs.Common.{◌≡◌, true, sym}
use Rattle.amqp_simple_values.specs.Equality.{simple_eq}
use Rattle.amqp_simple_values.specs.Order.{simple_decide}
use Rattle.amqp_simple_values.specs.Simple.{simple_term}
use Rattle.amqp_simple_values.specs.declared.simple.SimpleValue.{SimpleValue}
use Rattle.amqp_values.specs.Equality.{value_eq}
use Rattle.amqp_values.specs.laws.Equality.{values_decide}
use Rattle.amqp_values.specs.Values.{value_term}
use Rattle.amqp_values.specs.declared.value.Value.{Value}

pub same_values : (v w : Value) → value_term w ≡ value_term v → value_eq v w ≡ true
same_values v w e = (values_decide v w).1 (sym e)

pub same_simple_values : (v w : SimpleValue) → simple_term w ≡ simple_term v → simple_eq v w ≡ true
same_simple_values v w e = (simple_decide v w).1 (sym e)
