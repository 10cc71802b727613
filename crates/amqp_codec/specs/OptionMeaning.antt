-- An optional value: which terms mean it, why none is read, and how it is normalised.
use Rattle.std.proofs.Common.{◌≡◌, ◌⊎◌, ℕ, Bool, true, false, Option, Some, None}
use Rattle.amqp_model.specs.Term.{Term}
use Rattle.amqp_model.specs.Standing.{Standing}
use Rattle.amqp_model.specs.Items.{is_null}
use Rattle.amqp_model.specs.FieldType.{Norm, unchanged, by_norm}
use Rattle.amqp_decoder.specs.State.{State}
use Rattle.amqp_decoder.specs.Reading.{BeginFault, PeeksCode}
use Rattle.amqp_decoder.specs.Places.{Located, Here}

-- Null means none, and another term what the type takes.
abbrev pub MeansOption : {T : Type 0} → (Standing → Term → T → Type 0) → Standing → Term → Option T → Type 0
MeansOption means s t None = is_null t ≡ true
MeansOption means s t (Some v) = (is_null t ≡ false) × means s t v

-- No value begins, or what begins there isn't null and has the fault.
abbrev pub OptionFault : (State → Located → Type 0) → State → Located → Type 0
OptionFault fault st e = Here BeginFault st e ⊎ ((c : ℕ) × (mid : State) × PeeksCode st c mid × (c ≡ 0x40 → ⊥) × fault mid e)

abbrev pub keep : {T : Type 0} → Bool → T → Option T
keep true v = None
keep false v = Some v

-- a value whose canonical term is null becomes none
abbrev pub norm_some : {T : Type 0} → (T → T) → (T → Term) → Option T → Option T
norm_some f canon None = None
norm_some f canon (Some v) = keep (is_null (canon v)) (f v)

abbrev pub norm_option : {T : Type 0} → Norm T → Bool → (T → Term) → Norm (Option T)
norm_option unchanged true canon = unchanged
norm_option unchanged false canon = by_norm (norm_some (λ v. v) canon)
norm_option (by_norm f) is_never_null canon = by_norm (norm_some f canon)

abbrev pub count_option : {T : Type 0} → (T → ℕ) → Option T → ℕ
count_option count None = 1
count_option count (Some v) = count v
