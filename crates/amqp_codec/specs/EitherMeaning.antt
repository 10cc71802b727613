-- A value of one type or of another: what is said of it, and why none is read.
use Rattle.std.proofs.Common.{◌≡◌, ◌⊎◌, inl, inr, ℕ, Bool, true, false}
use Rattle.amqp_model.specs.Term.{Term}
use Rattle.amqp_model.specs.Standing.{Standing}
use Rattle.amqp_model.specs.Text.{form}
use Rattle.amqp_model.specs.FieldType.{Norm, normal, unchanged, by_norm}
use Rattle.amqp_decoder.specs.State.{State}
use Rattle.amqp_decoder.specs.Reading.{BeginFault, PeeksCode}
use Rattle.amqp_decoder.specs.Places.{Located, Here}
use Rattle.amqp_codec.specs.Faults.{Faults}
use Rattle.amqp_codec.specs.TermType.{TermType}

-- what the one or the other says of a value
abbrev pub either : {A B C : Type 0} → (A → C) → (B → C) → A ⊎ B → C
either f g (inl a) = f a
either f g (inr b) = g b

abbrev pub IsEither : {A B : Type 0} → (A → Type 0) → (B → Type 0) → A ⊎ B → Type 0
IsEither P Q (inl a) = P a
IsEither P Q (inr b) = Q b

abbrev pub SameEither : {A B : Type 0} → (A → A → Type 0) → (B → B → Type 0) → A ⊎ B → A ⊎ B → Type 0
SameEither P Q (inl a) (inl c) = P a c
SameEither P Q (inr b) (inr d) = Q b d
SameEither P Q (inl a) (inr d) = ⊥
SameEither P Q (inr b) (inl c) = ⊥

abbrev pub each_normal : {A B : Type 0} → Norm A → Norm B → A ⊎ B → A ⊎ B
each_normal m n (inl a) = inl (normal m a)
each_normal m n (inr b) = inr (normal n b)

abbrev pub norm_either : {A B : Type 0} → Norm A → Norm B → Norm (A ⊎ B)
norm_either unchanged unchanged = unchanged
norm_either m n = by_norm (each_normal m n)

module _ {A B : Type 0} (u : TermType A) (w : TermType B) where
  -- no term of the one has the form of a term of the other
  abbrev pub FormsApart : Type 0
  FormsApart = (s z : Standing) (t r : Term) (a : A) (b : B) → u.means s t a → w.means z r b → form t ≡ form r → ⊥

-- Why no value of two types that are told from each other by the first code is read: none begins, or what begins by a
-- code of the first type has a fault of that one, and what begins by another code a fault of the second.
pub data EitherFault (is_first : ℕ → Bool) (f g : Faults) (st : State) (e : Located) : Type 0 where
  no_value : Here BeginFault st e → EitherFault is_first f g st e
  in_first : {c : ℕ} {mid : State} → PeeksCode st c mid → is_first c ≡ true → f.fault mid e → EitherFault is_first f g st e
  in_second : {c : ℕ} {mid : State} → PeeksCode st c mid → is_first c ≡ false → g.fault mid e → EitherFault is_first f g st e
