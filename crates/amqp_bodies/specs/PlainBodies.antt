-- What takes the place of a body that isn't there, among values of any kind, what may be absent and the bytes of a term.
use Rattle.std.proofs.Common.{◌≡◌, Bool, true, false, Option, Some, None, refl, sym, ap, subst}
use Rattle.amqp_model.specs.Term.{kept}
use Rattle.amqp_model.specs.Items.{is_null}
use Rattle.amqp_codec.specs.TermType.{TermType}
use Rattle.amqp_codec.specs.OptionType.{option_of}
use Rattle.amqp_lazy.specs.LazyType.{Lazy, lazy_type}
use Rattle.amqp_values.specs.declared.value.Value.{Value}
use Rattle.amqp_values.specs.declared.value.Value.TheVariants.{Null}
use Rattle.amqp_values.specs.ValueType.{value_type}
use Rattle.amqp_bodies.specs.Bodies.{Empties}
use Rattle.amqp_bodies.specs.NullBodies.{IsNull}

abbrev is_null_value : Value → Bool
is_null_value Null = true
is_null_value _ = false

-- A null.
abbrev pub null_value : Empties Value
null_value = record { is = λ v. v ≡ Null; test = is_null_value; tested = λ v e. ap is_null_value e }

pub null_is_null : (v : Value) → v ≡ Null → IsNull value_type v
null_is_null v e = subst (IsNull value_type) (sym e) (refl, (tt, λ r h. h))

abbrev is_none : {T : Type 0} → Option T → Bool
is_none None = true
is_none (Some v) = false

-- What is absent.
abbrev pub none_value : {T : Type 0} → Empties (Option T)
none_value = record { is = λ v. v ≡ None; test = is_none; tested = λ v e. ap is_none e }

pub none_is_null : {T : Type 0} (u : TermType T) (v : Option T) → v ≡ None → IsNull (option_of u) v
none_is_null u v e = subst (IsNull (option_of u)) (sym e) refl

-- The bytes of a null.
abbrev pub lazy_null : Empties Lazy
lazy_null = record {
  is = IsNull lazy_type;
  test = λ v. is_null (kept v.bytes.items);
  tested = λ v h. ap (λ b. is_null (kept b)) (sym h.0);
}
