-- The type of simple values (Part 3, section 3.2.5).
use Rattle.std.proofs.Common.{◌≡◌, ℕ, Bool, length, refl, subst, arith}
use Rattle.amqp_model.specs.FieldType.{unchanged}
use Rattle.amqp_wire.specs.declared.error.Error.TheVariants.{InvalidValue}
use Rattle.amqp_decoder.specs.Misspelled.{IsMisspelling}
use Rattle.amqp_decoder.specs.Steps.{IsOutside}
use Rattle.amqp_codec.specs.Agreement.{Agreement, via_writing}
use Rattle.amqp_codec.specs.EitherType.{either_faults}
use Rattle.amqp_codec.specs.Faults.{Faults}
use Rattle.amqp_codec.specs.TermType.{TermType}
use Rattle.amqp_codec.specs.Wrappers.{via}
use Rattle.amqp_codec.specs.Written.{Writing}
use Rattle.amqp_kinds.specs.Kinds.{kind_at}
use Rattle.amqp_values.specs.ValueWriting.{value_writing}
use Rattle.amqp_values.specs.ValueType.{value_type}
use Rattle.amqp_simple_values.specs.declared.simple.SimpleValue.{SimpleValue}
use Rattle.amqp_simple_values.specs.Simple.{as_value, is_container}

-- A list, a map or an array begins by the code.
abbrev pub is_container_code : ℕ → Bool
is_container_code c = is_container (kind_at c)

-- Whatever stands there, it is no simple value.
abbrev pub never_simple : Faults
never_simple = record {
  fault = λ st e. (e.error ≡ InvalidValue) × (e.left ≡ length st.rest);
  not_outside = λ e out st h. subst IsOutside h.0 out;
  fault_elsewhere = λ c st e keeps h. h;
  misspelled = λ st e room i h. absurd (subst IsMisspelling h.0 i);
  within = λ st e h. omega (arith, h.1);
}

-- Why none is read: what begins by a code of a list, a map or an array is none; or what begins by another code is no value.
abbrev pub simple_faults : Faults
simple_faults = either_faults is_container_code never_simple value_type.faults

-- A simple value is as its value of any kind.
abbrev pub simple_type : TermType SimpleValue
simple_type = record (via value_type as_value unchanged (λ v. refl)) { faults = simple_faults }

abbrev pub simple_writing : Writing SimpleValue
simple_writing = via_writing as_value value_writing

-- It is written as its type says.
pub simple_agreement : Agreement simple_type simple_writing
simple_agreement = record { canons_is = λ v. refl; value_to = λ v i. i; value_from = λ v i. i }
