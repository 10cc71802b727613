-- What is read and rewritten as the type that is named, within limits.
use Rattle.std.specs.Prelude.{◌≡◌, ◌⊎◌, ℕ, List}
use Rattle.amqp_model.specs.Term.{Term}
use Rattle.amqp_wire.specs.declared.limits.Limits.{Limits}
use Rattle.amqp_wire.specs.declared.refusal.Refusal.{Refusal}
use Rattle.amqp_codec.specs.Reading.{Reading, BeginsWithin, IsUnreadableWithin, IsFaultyAt}
use Rattle.amqp_catalogue.specs.NamedTypes.{of_type}
use Rattle.amqp_catalogue.specs.declared.type_name.TypeName.{TypeName}
use Rattle.amqp_read_write.specs.Rewritten.{IsUnwrittenWithin}

-- So many bytes are taken by the one value that the input begins with within the limits.
pub record IsLengthWithin {T : Type 0} (limits : Limits) (r : Reading T) (input : List ℕ) (n : ℕ) : Type 0 where
  pub value : T
  pub read : BeginsWithin limits r input value n
  pub one : (w : T) (m : ℕ) → BeginsWithin limits r input w m → r.same value w × (n ≡ m)

-- The same of the type with that name.
abbrev pub IsLengthOf : TypeName → Limits → List ℕ → ℕ → Type 0
IsLengthOf = of_type (λ T reading canons limits input n. IsLengthWithin limits reading input n)

-- Within the limits the input begins with no value, and has the fault, at the place.
abbrev pub IsUnreadableAt : {T : Type 0} → Limits → Reading T → List ℕ → Refusal → Type 0
IsUnreadableAt limits r input refusal = IsUnreadableWithin limits r input refusal.error × IsFaultyAt limits r input refusal.error refusal.at

-- The same of the type with that name.
abbrev pub HasNoLength : TypeName → Limits → List ℕ → Refusal → Type 0
HasNoLength = of_type (λ T reading canons limits input refusal. IsUnreadableAt limits reading input refusal)

-- Within the limits there is no canonical text: the input begins with no value, and has the fault at the place; or the value that it begins
-- with can't be written.
abbrev pub HasNoTextAt : {T : Type 0} → Limits → Reading T → (T → List Term) → List ℕ → Refusal → Type 0
HasNoTextAt limits r canons input refusal = IsUnreadableAt limits r input refusal ⊎ IsUnwrittenWithin limits r canons input refusal.error

-- The same of the type with that name.
abbrev pub HasNoText : TypeName → Limits → List ℕ → Refusal → Type 0
HasNoText = of_type (λ T reading canons limits input refusal. HasNoTextAt limits reading canons input refusal)
