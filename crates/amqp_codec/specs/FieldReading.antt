-- How the fields of a composite are read, one after another.
use Rattle.std.proofs.Common.{◌≡◌, ◌⊎◌, min, ℕ, zero, suc, ◌<◌, ◌≤◌, Bool, true, false, List, [], ◌∷◌, length, get_or, Option, Some, None}
use Rattle.std.proofs.Common.{Result, Ok, Err}
use Rattle.amqp_model.specs.Term.{null, list, Term, leaf}
use Rattle.amqp_model.specs.Standing.{Standing}
use Rattle.amqp_model.specs.Items.{is_null}
use Rattle.amqp_model.specs.Slot.{is_required}
use Rattle.amqp_model.specs.Fields.{Fits, rules_of}
use Rattle.amqp_model.specs.declared.tables.FieldRule.{FieldRule}
use Rattle.amqp_wire.specs.declared.error.Error.{Error}
use Rattle.amqp_wire.specs.declared.error.Error.TheVariants.{Missing, EmptyMultiple}
use Rattle.amqp_model.specs.declared.tables.FieldRule.TheVariants.{Mandatory, MandatoryMultiple}
use Rattle.amqp_decoder.specs.declared.frame.Place.TheVariants.{InList}
use Rattle.amqp_decoder.specs.State.{State, after_value, weight_at}
use Rattle.amqp_decoder.specs.Reading.{BeginFault, PeeksCode}
use Rattle.amqp_decoder.specs.Primitives.{standing, Stands, ReadsValue, Means}
use Rattle.amqp_decoder.specs.Containers.{Opens, OpenFault, CloseFault}
use Rattle.amqp_decoder.specs.Items.{Row, Contains}
use Rattle.amqp_decoder.specs.Places.{Located, Here, RefusesAt}
use Rattle.amqp_codec.specs.Fields.{Fields, none, field, slots, take_memory}

-- all fields are equal
abbrev pub Keeps : {V : Type 0} → Fields V → V → V → Type 0
Keeps none v w = Unit {0}
Keeps (field get f fs) v w = (get w ≡ get v) × Keeps fs v w

-- all fields but one are equal
abbrev pub KeepsBut : {V : Type 0} → Fields V → ℕ → V → V → Type 0
KeepsBut none i v w = Unit {0}
KeepsBut (field get f fs) zero v w = Keeps fs v w
KeepsBut (field get f fs) (suc i) v w = (get w ≡ get v) × KeepsBut fs i v w

-- each field but the required ones holds what null means
abbrev pub IsBlank : {V : Type 0} → Fields V → V → Type 0
IsBlank none v = Unit {0}
IsBlank (field get f fs) v = (is_required f.slot.rule ≡ false → f.slot.meaning.means (leaf null) (get v)) × IsBlank fs v

-- A value was read into its place.
abbrev pub Fills : {T : Type 0} → Bool → (Standing → Term → T → Type 0) → (State → Located → Type 0) → State → T
    → Result (Unit {0}) Error → State → Type 0
Fills takes reads fault st x (Ok u) b = ReadsValue reads st x b
Fills takes reads fault st x (Err e) b = RefusesAt takes (ReadsValue reads) fault st e b

-- A value that isn't null was read into the field of this number, and then the others stay.
abbrev pub FillsField : {V : Type 0} → Fields V → ℕ → V → V → State → Result (Unit {0}) Error → State → Type 0
FillsField none i v w st r b = Unit {0}
FillsField (field get f fs) zero v w st r b = Fills f.takes_memory f.reads f.faults.fault st (get w) r b × (r ≡ Ok tt → Keeps fs v w)
FillsField (field get f fs) (suc i) v w st r b = (r ≡ Ok tt → get w ≡ get v) × FillsField fs i v w st r b

-- by a field's number
abbrev pub MeansAt : {V : Type 0} → Fields V → ℕ → Standing → Term → V → Type 0
MeansAt none i s t v = ⊥
MeansAt (field get f fs) zero s t v = f.reads s t (get v)
MeansAt (field get f fs) (suc i) s t v = MeansAt fs i s t v

abbrev pub FaultAt : {V : Type 0} → Fields V → ℕ → State → Located → Type 0
FaultAt none i st e = ⊥
FaultAt (field get f fs) zero st e = f.faults.fault st e
FaultAt (field get f fs) (suc i) st e = FaultAt fs i st e

-- The first n fields are what the terms mean, of which there are no more than n, and the others are blank.
abbrev pub FitsFront : {V : Type 0} → Fields V → ℕ → List Term → V → Type 0
FitsFront none n ts v = Unit {0}
FitsFront (field get f fs) zero ts v = IsBlank (field get f fs) v
FitsFront (field get f fs) (suc n) [] v = f.slot.meaning.means (leaf null) (get v) × FitsFront fs n [] v
FitsFront (field get f fs) (suc n) (t ∷ ts) v = f.slot.meaning.means t (get v) × FitsFront fs n ts v

-- The rule of a field by its number, mandatory past the last one.
abbrev pub rule_at : {V : Type 0} → Fields V → ℕ → FieldRule
rule_at fs i = get_or (rules_of (slots fs)) i Mandatory

-- What an item means in its field: null where it may be left out, and else what the type of the field says.
abbrev pub FitsAt : {V : Type 0} → Fields V → ℕ → Standing → Term → V → Type 0
FitsAt fs i s t v = ((is_null t ≡ true) × (is_required (rule_at fs i) ≡ false)) ⊎ ((is_null t ≡ false) × MeansAt fs i s t v)

-- An item stood next, and was read into its field.
pub record ItemRead {V : Type 0} (fs : Fields V) (i : ℕ) (v w : V) (st b : State) : Type 0 where
  pub bytes : List ℕ
  pub term : Term
  pub stands : Stands st bytes term
  pub moved : b ≡ after_value (length bytes) (weight_at st term) st
  pub fits : ((term ≡ leaf null) × (is_required (rule_at fs i) ≡ false) × (w ≡ v))
      ⊎ (MeansAt fs i (standing st.top.shared bytes) term w × KeepsBut fs i v w)

-- Part 1, section 1.4: the error for a field that is null or left out, where it must be there.
abbrev pub absence : FieldRule → Option Error
absence Mandatory = Some Missing
absence MandatoryMultiple = Some EmptyMultiple
absence _ = None

-- Why an item isn't read into its field: none begins, it is null where that doesn't fit, or it isn't null and the type of the
-- field says.
pub data ItemFault {V : Type 0} (fs : Fields V) (i : ℕ) (st : State) (e : Located) : Type 0 where
  no_item : Here BeginFault st e → ItemFault fs i st e
  null_item : {b : State} → ReadsValue (Means (λ (_ : Unit {0}). null)) st tt b → absence (rule_at fs i) ≡ Some e.error
      → e.left ≡ suc (length b.rest) → ItemFault fs i st e
  in_item : {c : ℕ} {mid : State} → PeeksCode st c mid → (c ≡ 0x40 → ⊥) → FaultAt fs i mid e → ItemFault fs i st e

abbrev pub ReadsItem : {V : Type 0} → Fields V → ℕ → V → V → State → Result (Unit {0}) Error → State → Type 0
ReadsItem fs i v w st (Ok u) b = ItemRead fs i v w st b
ReadsItem fs i v w st (Err e) b = RefusesAt (take_memory fs) (ReadsValue (FitsAt fs i)) (ItemFault fs i) st e b

-- A null stood next and was taken, or what stands next begins by another code, and nothing is taken.
abbrev pub TakesNull : State → Bool → State → Type 0
TakesNull st true b = ReadsValue (Means (λ (_ : Unit {0}). null)) st tt b
TakesNull st false b = (c : ℕ) × PeeksCode st c b × (c ≡ 0x40 → ⊥)

-- The fields up to number i were read from a list of n items.
pub record FieldsSoFar {V : Type 0} (fs : Fields V) (st : State) (n i : ℕ) (v : V) (now_ : State) : Type 0 where
  pub first : State
  pub opens : Opens list st n first
  pub terms : List Term
  pub bytes : List ℕ
  pub each : Row first terms bytes now_
  pub long : length terms ≡ min i n
  pub front : FitsFront fs i terms v

-- A list stood next that is the fields of the value.
pub record FieldsRead {V : Type 0} (fs : Fields V) (st : State) (v : V) (b : State) : Type 0 where
  pub terms : List Term
  pub stand : Contains list st terms b
  pub fits : Fits (slots fs) terms v

-- Why no fields are read.
pub data FieldsFault {V : Type 0} (fs : Fields V) (st : State) (e : Located) : Type 0 where
  no_list : Here (OpenFault list) st e → FieldsFault fs st e
  at_item : {n i : ℕ} {v : V} {mid : State} → FieldsSoFar fs st n i v mid → i < n → i < length (rules_of (slots fs))
      → ItemFault fs i mid e → FieldsFault fs st e
  left_out : {n i : ℕ} {v : V} {mid : State} → FieldsSoFar fs st n i v mid → n ≤ i → i < length (rules_of (slots fs))
      → absence (rule_at fs i) ≡ Some e.error → e.left ≡ length mid.rest → FieldsFault fs st e
  not_ended : {n : ℕ} {v : V} {mid : State} → FieldsSoFar fs st n (length (rules_of (slots fs))) v mid
      → Here (CloseFault InList) mid e → FieldsFault fs st e

-- All fields were read into their places.
abbrev pub FillsAll : {V : Type 0} → Fields V → V → State → Result (Unit {0}) Error → State → Type 0
FillsAll fs w st (Ok u) b = FieldsRead fs st w b
FillsAll fs w st (Err e) b = RefusesAt (take_memory fs) (FieldsRead fs) (FieldsFault fs) st e b
