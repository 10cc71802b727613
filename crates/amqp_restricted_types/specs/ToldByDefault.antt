-- Default values that a number of theirs tells from all others.
use Rattle.std.proofs.Common.{◌≡◌, ℕ, ap}
use Rattle.std.specs.Prelude.{nat_eq}
use Rattle.std.proofs.lemmas.Bool.Decides.{Decides-eqb}
use Rattle.amqp_model.specs.FieldType.{Meaning, normal}
use Rattle.amqp_model.specs.FieldRules.{DefaultValue}

abbrev pub numbered_default : {T : Type 0} (m : Meaning T) (number : T → ℕ) (value : T)
    → ((v : T) → number v ≡ number value → m.same v value)
    → ((v : T) → m.same v value → number v ≡ number value)
    → ((v : T) → number (normal m.norm v) ≡ number v) → m.is_value value → DefaultValue m
numbered_default m number value same_of number_of number_normal is_value = record {
  value = value;
  test = λ v. nat_eq (number v) (number value);
  sound = λ v e. same_of v ((Decides-eqb (number v) (number value)).0 e);
  complete = λ v h. (Decides-eqb (number v) (number value)).1 (number_of v h);
  test_normal = λ v. ap (λ n. nat_eq n (number value)) (number_normal v);
  is_value = is_value;
}
