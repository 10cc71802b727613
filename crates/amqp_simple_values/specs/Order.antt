-- The order and the hash of simple values are those of the values that they are.
use Rattle.std.proofs.Common.{◌≡◌, true}
use Rattle.std.specs.Bool.{Decides}
use Rattle.std.specs.Hash as fed
use Rattle.std.specs.declared.cmp.Ordering.{Ordering}
use Rattle.std.specs.Ordering.{as_partial_cmp, eq_by_cmp}
use Rattle.std.specs.Cmp.{IsTotalOrder, IsPartialOrder, on_total, on_po}
use Rattle.amqp_values.specs.laws.Equality.{values_decide}
use Rattle.amqp_values.specs.Order.{value_cmp}
use Rattle.amqp_values.specs.laws.Order.{values_po, values_total, values_tied}
use Rattle.amqp_values.specs.Hashed.{value_fed, values_alike}
use Rattle.amqp_simple_values.specs.declared.simple.SimpleValue.{SimpleValue}
use Rattle.amqp_simple_values.specs.Simple.{as_value, simple_term}
use Rattle.amqp_simple_values.specs.Equality.{simple_eq}

abbrev pub simple_cmp : SimpleValue → SimpleValue → Ordering
simple_cmp v w = value_cmp (as_value v) (as_value w)

pub simple_po : IsPartialOrder simple_eq (as_partial_cmp simple_cmp)
simple_po = on_po as_value values_po

pub simple_total : IsTotalOrder simple_cmp
simple_total = on_total as_value values_total

pub simple_tied : (v w : SimpleValue) → simple_eq v w ≡ eq_by_cmp simple_cmp v w
simple_tied v w = values_tied (as_value v) (as_value w)

abbrev pub simple_fed : SimpleValue → fed.HashWrites
simple_fed v = value_fed (as_value v)

pub simple_alike : (v w : SimpleValue) → simple_eq v w ≡ true → simple_fed v ≡ simple_fed w
simple_alike v w = values_alike (as_value v) (as_value w)

-- Simple values are equal exactly where they have one term.
pub simple_decide : (v w : SimpleValue) → Decides (simple_eq v w) (simple_term v ≡ simple_term w)
simple_decide v w = values_decide (as_value v) (as_value w)
