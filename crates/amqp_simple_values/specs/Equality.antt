-- Simple values are equal exactly if their terms are.
use Rattle.std.specs.Prelude.{Bool}
use Rattle.std.specs.Cmp.{IsPartialEquivalence, IsEquivalence}
use Rattle.amqp_values.specs.Equality.{value_eq}
use Rattle.amqp_values.specs.laws.Equality.{values_per, values_equiv}
use Rattle.amqp_simple_values.specs.declared.simple.SimpleValue.{SimpleValue}
use Rattle.amqp_simple_values.specs.Simple.{as_value}

-- Two simple values are equal.
abbrev pub simple_eq : SimpleValue → SimpleValue → Bool
simple_eq v w = value_eq (as_value v) (as_value w)

pub simple_per : IsPartialEquivalence simple_eq
simple_per = record {
  symm = λ v w. values_per.symm (as_value v) (as_value w);
  trans = λ v w x. values_per.trans (as_value v) (as_value w) (as_value x);
}

pub simple_equiv : IsEquivalence simple_eq
simple_equiv = record {
  refl = λ v. values_equiv.refl (as_value v);
  symm = λ v w. values_equiv.symm (as_value v) (as_value w);
  congr = λ v w x. values_equiv.congr (as_value v) (as_value w) (as_value x);
}
