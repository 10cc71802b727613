-- What stands in a field of several values (Part 1, section 1.4): the items of an array, or one value by itself.
use Rattle.std.proofs.Common.{◌≡◌, ◌⊎◌, ℕ, Bool, ◌||◌, eqb, List, [], ◌∷◌, length, map, Option, Some, None, subst, ◌≤◌, arith}
use Rattle.amqp_model.specs.Term.{null, empty_multiple, array, Term, leaf, barred}
use Rattle.amqp_model.specs.FieldRules.{option_canon, array_or}
use Rattle.amqp_model.specs.Standing.{Standing}
use Rattle.amqp_model.specs.Ranges.{IsNoArray}
use Rattle.amqp_wire.specs.declared.error.Error.TheVariants.{EmptyMultiple}
use Rattle.amqp_decoder.specs.State.{State}
use Rattle.amqp_decoder.specs.OtherSource.{Setting, under, KeepsError}
use Rattle.amqp_decoder.specs.laws.OtherSource.{value}
use Rattle.amqp_decoder.specs.Rooms.{HasRoom}
use Rattle.amqp_decoder.specs.Misspelled.{IsMisspelling, NothingStands}
use Rattle.amqp_decoder.specs.Primitives.{ReadsValue}
use Rattle.amqp_decoder.specs.Steps.{IsOutside}
use Rattle.amqp_decoder.specs.Places.{Located}
use Rattle.amqp_codec.specs.Faults.{Faults}
use Rattle.amqp_codec.specs.TermType.{TermType, IsLeaf}
use Rattle.amqp_codec.specs.EitherType.{either_faults}
use Rattle.amqp_codec.specs.Each.{MeansItems}
use Rattle.amqp_containers.specs.ArrayType.{array_of}
use Rattle.amqp_containers.specs.declared.array.Array.{Array}

-- Part 1, section 1.6.24
abbrev pub is_array_code : ℕ → Bool
is_array_code c = eqb c 0xe0 || eqb c 0xf0

-- Each canonical term is a leaf. So an array of one value nests no deeper than the value by itself.
abbrev pub AreLeaves : {T : Type 0} → TermType T → Type 0
AreLeaves {T} u = (v : T) → IsLeaf (u.canon v)

-- the term means the one value
abbrev pub MeansOne : {T : Type 0} → (Standing → Term → T → Type 0) → Standing → Term → List T → Type 0
MeansOne means s t [] = ⊥
MeansOne means s t (v ∷ []) = means s t v
MeansOne means s t (v ∷ w ∷ vs) = ⊥

-- The term is an array, and its items mean the values; or it is none, and means the one value.
abbrev pub MeansSeveral : {T : Type 0} → TermType T → Standing → Term → List T → Type 0
MeansSeveral u s t vs = MeansItems u.ignores_standing u.means array s t vs ⊎ (IsNoArray t × MeansOne u.means s t vs)

-- At least one value.
abbrev pub MeansAtLeastOne : {T : Type 0} → TermType T → Standing → Term → Array T → Type 0
MeansAtLeastOne u s t v = MeansSeveral u s t v.0.items × (v.0.items ≡ [] → ⊥)

-- An array without items means none.
abbrev pub MeansMultiple : {T : Type 0} → TermType T → Standing → Term → Option (Array T) → Type 0
MeansMultiple u s t None = MeansSeveral u s t []
MeansMultiple u s t (Some v) = MeansAtLeastOne u s t v

-- An array of the values' canonical terms, or d for none.
abbrev pub array_canon : {T : Type 0} → Term → (T → Term) → Array T → Term
array_canon d canon v = array_or d (map canon v.0.items)

-- The canonical term of a field of any number of values, and of one of at least one.
abbrev pub multiple_canon : {T : Type 0} → (T → Term) → Option (Array T) → Term
multiple_canon canon = option_canon (array_canon (leaf null) canon)

abbrev pub mandatory_multiple_canon : {T : Type 0} → (T → Term) → Array T → Term
mandatory_multiple_canon canon = array_canon (barred empty_multiple) canon

-- Why none are read: what begins by a code of an array is none of such items; or what begins by another code is no such value.
abbrev pub multiple_faults : {T : Type 0} → TermType T → Faults
multiple_faults u = either_faults is_array_code (array_of u).faults u.faults

-- Where at least one is wanted: as well, an array without items stands there.
pub data MandatoryFault {T : Type 0} (u : TermType T) (st : State) (e : Located) : Type 0 where
  not_read : (multiple_faults u).fault st e → MandatoryFault u st e
  no_items : {b : State} → ReadsValue (MeansMultiple u) st None b → e.error ≡ EmptyMultiple → e.left ≡ length st.rest
      → MandatoryFault u st e

module _ {T : Type 0} (u : TermType T) where
  pub mandatory_not_outside : {e : Located} → IsOutside e.error → (st : State) → MandatoryFault u st e → ⊥
  mandatory_not_outside {e} out st (not_read h) = (multiple_faults u).not_outside e out st h
  mandatory_not_outside out st (no_items h is place) = subst IsOutside is out

  pub mandatory_elsewhere : (c : Setting) (st : State) (e : Located) → KeepsError c e.error → MandatoryFault u st e
      → MandatoryFault u (under c st) e
  mandatory_elsewhere c st e keeps (not_read h) = not_read ((multiple_faults u).fault_elsewhere c st e keeps h)
  mandatory_elsewhere c st e keeps (no_items h is place) = no_items (value c (MeansMultiple u) h) is place

  pub mandatory_misspelled : (st : State) (e : Located) → HasRoom st → IsMisspelling e.error → MandatoryFault u st e → NothingStands st
  mandatory_misspelled st e room i (not_read h) = (multiple_faults u).misspelled st e room i h
  mandatory_misspelled st e room i (no_items h is place) = absurd (subst IsMisspelling is i)

  pub mandatory_within : (st : State) (e : Located) → MandatoryFault u st e → e.left ≤ length st.rest
  mandatory_within st e (not_read h) = (multiple_faults u).within st e h
  mandatory_within st e (no_items h is place) = omega (arith, place)

  abbrev pub mandatory_faults : Faults
  mandatory_faults = record {
    fault = MandatoryFault u;
    not_outside = λ e out. mandatory_not_outside out;
    fault_elsewhere = mandatory_elsewhere;
    misspelled = mandatory_misspelled;
    within = mandatory_within;
  }
