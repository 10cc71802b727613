-- Restricted types: each value is one of a primitive type's, a number or a text, and the table of a type says which.
use Rattle.std.proofs.Common.{length, ◌≡◌, ℕ, Bool, true, false, List, Result, Ok, Err, sym, subst, ◌≤◌, arith}
use Rattle.amqp_model.specs.Term.{Term, leaf}
use Rattle.amqp_model.specs.Standing.{Standing}
use Rattle.amqp_wire.specs.declared.error.Error.{Error}
use Rattle.amqp_wire.specs.declared.error.Error.TheVariants.{UnknownText, UnknownNumber}
use Rattle.amqp_decoder.specs.State.{State}
use Rattle.amqp_decoder.specs.Misspelled.{IsMisspelling, NothingStands}
use Rattle.amqp_decoder.specs.Primitives.{ReadsValue, Means, PrimitiveFault}
use Rattle.amqp_decoder.specs.OtherSource.{Setting, under, KeepsError}
use Rattle.amqp_decoder.specs.laws.OtherSource.{value, primitive_fault}
use Rattle.amqp_decoder.proofs.NotOutside.{primitive_not_outside}
use Rattle.amqp_decoder.proofs.Misspelled.{primitive_misspelled}
use Rattle.amqp_decoder.specs.Steps.{IsOutside}
use Rattle.amqp_decoder.specs.Places.{Located, Here, AnswersAt}
use Rattle.amqp_codec.specs.ExactType.{MeansExactly, exact}
use Rattle.amqp_codec.specs.Faults.{Faults}
use Rattle.amqp_codec.specs.TermType.{TermType}
use Rattle.amqp_codec.specs.PrimitiveTypes.{IsKind, Base, IsOf, primitive_exact, symbol_base}

-- No value has this number or text.
abbrev pub IsUnknown : {A V : Type 0} → (V → A) → A → Type 0
IsUnknown {V = V} table a = (v : V) → table v ≡ a → ⊥

-- A conversion of a text: the value that has it, or else, where there is none, what was given.
abbrev pub Converts : {V G : Type 0} → (V → List ℕ) → List ℕ → G → Result V G → Type 0
Converts table text given (Ok v) = table v ≡ text
Converts table text given (Err g) = (g ≡ given) × IsUnknown table text

-- The errors for a number or a text of no value.
abbrev pub IsUnknownError : Error → Type 0
IsUnknownError UnknownNumber = Unit {0}
IsUnknownError UnknownText = Unit {0}
IsUnknownError _ = ⊥

unknown_not_misspelled : (e : Error) → IsUnknownError e → IsMisspelling e → ⊥
unknown_not_misspelled UnknownNumber h i = i
unknown_not_misspelled UnknownText h i = i
unknown_not_misspelled _ h i = absurd h

unknown_not_outside : (e : Error) → IsUnknownError e → IsOutside e → ⊥
unknown_not_outside UnknownNumber h out = out
unknown_not_outside UnknownText h out = out
unknown_not_outside _ h out = absurd h

-- The term is the value's number or text.
abbrev pub MeansRestricted : {A V : Type 0} → Base A → (V → A) → Standing → Term → V → Type 0
MeansRestricted base table = MeansExactly (λ _. Unit {0}) (λ v. leaf (base.make (table v)))

module _ {A V : Type 0} (base : Base A) (unknown : Error) (table : V → A) where
  -- Why no value is read: no primitive of the base stands there, or one that is no value's.
  pub data RestrictedFault (st : State) (e : Located) : Type 0 where
    no_primitive : Here (PrimitiveFault base.kind) st e → RestrictedFault st e
    of_no_value : {a : A} {b : State} → ReadsValue (Means base.make) st a b → IsUnknown table a → e.error ≡ unknown
        → e.left ≡ length st.rest → RestrictedFault st e

  -- What a call promises that reads a value.
  abbrev pub ReadsRestricted : (takes_memory : Bool) → State → Result V Error → State → Type 0
  ReadsRestricted takes_memory = AnswersAt takes_memory (ReadsValue (MeansRestricted base table)) RestrictedFault

  module _ (is : IsUnknownError unknown) where
    pub restricted_not_outside : {e : Located} → IsOutside e.error → (st : State) → RestrictedFault st e → ⊥
    restricted_not_outside out st (no_primitive h) = primitive_not_outside out base.kind st h.0
    restricted_not_outside out st (of_no_value h none e place) = unknown_not_outside unknown is (subst IsOutside e out)

    pub restricted_elsewhere : (c : Setting) (st : State) (e : Located) → KeepsError c e.error → RestrictedFault st e
        → RestrictedFault (under c st) e
    restricted_elsewhere c st e keeps (no_primitive h) = no_primitive (primitive_fault c keeps h.0, h.1)
    restricted_elsewhere c st e keeps (of_no_value h none i place) = of_no_value (value c (Means base.make) h) none i place

    pub restricted_misspelled : (st : State) (e : Located) → IsMisspelling e.error → RestrictedFault st e → NothingStands st
    restricted_misspelled st e i (no_primitive h) = primitive_misspelled base.kind st e.error i h.0
    restricted_misspelled st e i (of_no_value h none j place) = absurd (unknown_not_misspelled e.error (subst IsUnknownError (sym j) is) i)

    pub restricted_within : (st : State) (e : Located) → RestrictedFault st e → e.left ≤ length st.rest
    restricted_within st e (no_primitive h) = omega (arith, h.1)
    restricted_within st e (of_no_value h none i place) = omega (arith, place)

    abbrev pub restricted_faults : Faults
    restricted_faults = record {
      fault = RestrictedFault;
      not_outside = λ e out. restricted_not_outside out;
      fault_elsewhere = restricted_elsewhere;
      misspelled = λ st e _. restricted_misspelled st e;
      within = restricted_within;
    }

-- No two values have one number or text.
abbrev pub IsDistinct : {A V : Type 0} → (V → A) → Type 0
IsDistinct {V = V} table = (v w : V) → table v ≡ table w → v ≡ w

module _ {A V : Type 0} (base : Base A) (table : V → A) (distinct : IsDistinct table) (in_range : (v : V) → IsOf base (table v)) where
  pub restricted_kind : IsKind (λ v. base.make (table v)) (λ _. Unit {0}) true
  restricted_kind = record {
    injective = λ v w e. distinct v w (base.injective (table v) (table w) e);
    in_range = λ v _. in_range v;
    not_null = λ _ v. base.not_null (table v);
  }

  -- The type of a table, the error for all else, and whether reading it takes memory.
  abbrev pub restricted : (unknown : Error) → IsUnknownError unknown → Bool → TermType V
  restricted unknown is takes_memory =
      let faults = restricted_faults base unknown table is in
      exact (primitive_exact (λ v. base.make (table v)) (λ _. Unit {0}) restricted_kind) faults takes_memory

  -- Each value is its number.
  abbrev pub restricted_number : TermType V
  restricted_number = restricted UnknownNumber tt false

-- Each value is its text, a symbol.
abbrev pub restricted_text : {V : Type 0} (table : V → List ℕ) → IsDistinct table → TermType V
restricted_text table distinct = restricted symbol_base table distinct (λ v. tt) UnknownText tt true
