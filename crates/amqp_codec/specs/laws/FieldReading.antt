-- Lemmas of how the fields of a composite are read, one after another.
use Rattle.std.proofs.Common.{subst, ◌≡◌, ℕ, zero, suc, ◌<◌, ◌≤◌, true, false, List, [], ◌∷◌, ◌++◌, length, get_or, Some, None, Ok, Err, refl}
use Rattle.std.proofs.Common.{arith, ap, sym, unwrap_or}
use Rattle.amqp_wire.specs.declared.error.Error.TheVariants.{Missing}
use Rattle.amqp_model.specs.Term.{null, list, Term, leaf}
use Rattle.amqp_model.specs.Standing.{Standing}
use Rattle.amqp_model.specs.Items.{is_null}
use Rattle.amqp_model.specs.Slot.{is_required}
use Rattle.amqp_model.specs.Fields.{Fits, rules_of}
use Rattle.amqp_model.specs.declared.tables.FieldRule.{FieldRule}
use Rattle.amqp_wire.specs.declared.error.Error.{Error}
use Rattle.amqp_model.specs.declared.tables.FieldRule.TheVariants.{Mandatory, Optional, Default, Multiple, MandatoryMultiple}
use Rattle.amqp_decoder.specs.declared.frame.Place.TheVariants.{InList}
use Rattle.amqp_decoder.specs.State.{State}
use Rattle.amqp_decoder.specs.Primitives.{ReadsValue}
use Rattle.amqp_decoder.proofs.NotOutside.{begin_not_outside, open_not_outside, close_not_outside}
use Rattle.amqp_decoder.specs.Steps.{IsOutside}
use Rattle.amqp_decoder.specs.Places.{Located, RefusesAt}
use Rattle.amqp_codec.specs.laws.Refusal.{refused_first}
use Rattle.amqp_codec.specs.Fields.{Fields, none, field, slots, take_memory}
use Rattle.amqp_codec.specs.laws.Fields.{either_first, either_second}
use Rattle.amqp_codec.specs.FieldReading.{Keeps, KeepsBut, IsBlank, FillsField, MeansAt, FaultAt, FitsFront, rule_at, absence, ItemFault}
use Rattle.amqp_codec.specs.FieldReading.{FieldsFault, no_item, null_item, in_item, no_list, at_item, left_out, not_ended}

pub front_start : {V : Type 0} (fs : Fields V) (ts : List Term) (v : V) → IsBlank fs v → FitsFront fs 0 ts v
front_start none ts v b = tt
front_start (field get f fs) ts v b = b

-- a field without an item
pub front_missing : {V : Type 0} (fs : Fields V) (n : ℕ) (ts : List Term) (v : V) (k : FieldRule) → n < length (rules_of (slots fs))
    → length ts ≤ n → is_required (get_or (rules_of (slots fs)) n k) ≡ false → FitsFront fs n ts v → FitsFront fs (suc n) ts v
front_missing none n ts v k l few r m = tt
front_missing (field get f fs) zero [] v k l few r m = (m.0 r, front_start fs [] v m.1)
front_missing (field get f fs) zero (t ∷ ts) v k l few r m = absurd (omega arith)
front_missing (field get f fs) (suc n) [] v k l few r m = (m.0, front_missing fs n [] v k (omega arith) (omega arith) r m.1)
front_missing (field get f fs) (suc n) (t ∷ ts) v k l few r m = (m.0, front_missing fs n ts v k (omega arith) (omega arith) r m.1)

-- the next item is null
pub front_null : {V : Type 0} (fs : Fields V) (n : ℕ) (ts : List Term) (v : V) (k : FieldRule) → n < length (rules_of (slots fs))
    → length ts ≡ n → is_required (get_or (rules_of (slots fs)) n k) ≡ false → FitsFront fs n ts v
    → FitsFront fs (suc n) (ts ++ leaf null ∷ []) v
front_null none n ts v k l e r m = tt
front_null (field get f fs) zero [] v k l e r m = (m.0 r, front_start fs [] v m.1)
front_null (field get f fs) zero (t ∷ ts) v k l e r m = absurd (omega arith)
front_null (field get f fs) (suc n) [] v k l e r m = absurd (omega arith)
front_null (field get f fs) (suc n) (t ∷ ts) v k l e r m = (m.0, front_null fs n ts v k (omega arith) (omega arith) r m.1)

blank_kept : {V : Type 0} (fs : Fields V) (v w : V) → Keeps fs v w → IsBlank fs v → IsBlank fs w
blank_kept none v w k b = tt
blank_kept (field get f fs) v w k b = ((λ r. rw k.0 (b.0 r)), blank_kept fs v w k.1 b.1)

-- the next item was read into its field
pub front_filled : {V : Type 0} (fs : Fields V) (n : ℕ) (ts : List Term) (v w : V) (s : Standing) (t : Term) → length ts ≡ n
    → MeansAt fs n s t w → KeepsBut fs n v w → FitsFront fs n ts v → FitsFront fs (suc n) (ts ++ t ∷ []) w
front_filled none n ts v w s t e a k m = absurd a
front_filled (field get f fs) zero [] v w s t e a k m = (f.fits s t (get w) a, front_start fs [] w (blank_kept fs v w k m.1))
front_filled (field get f fs) zero (u ∷ ts) v w s t e a k m = absurd (omega arith)
front_filled (field get f fs) (suc n) [] v w s t e a k m = absurd (omega arith)
front_filled (field get f fs) (suc n) (u ∷ ts) v w s t e a k m = ((rw k.0 m.0), front_filled fs n ts v w s t (omega arith) a k.1 m.1)

-- all fields were gone through
pub front_end : {V : Type 0} (fs : Fields V) (n : ℕ) (ts : List Term) (v : V) → n ≡ length (rules_of (slots fs)) → length ts ≤ n
    → FitsFront fs n ts v → Fits (slots fs) ts v
unfolding Fits
front_end none n [] v e few m = tt
front_end none n (t ∷ ts) v e few m = absurd (omega (arith, e))
front_end (field get f fs) zero ts v e few m = absurd (omega (arith, e))
front_end (field get f fs) (suc n) [] v e few m = (m.0, front_end fs n [] v (omega (arith, e)) (omega arith) m.1)
front_end (field get f fs) (suc n) (t ∷ ts) v e few m = (m.0, front_end fs n ts v (omega (arith, e)) (omega arith) m.1)

-- Of any value that the terms mean: what each field is.
pub fits_value : {V : Type 0} (fs : Fields V) (n : ℕ) (ts : List Term) (v : V) (s : Standing) → Fits (slots fs) ts v → n < length ts
    → is_null (get_or ts n (leaf null)) ≡ false → MeansAt fs n s (get_or ts n (leaf null)) v
unfolding Fits
fits_value none n [] v s m l z = absurd (omega arith)
fits_value none n (t ∷ ts) v s m l z = absurd m
fits_value (field get f fs) n [] v s m l z = absurd (omega arith)
fits_value (field get f fs) zero (t ∷ ts) v s m l z = f.is_read s t (get v) z m.0
fits_value (field get f fs) (suc n) (t ∷ ts) v s m l z = fits_value fs n ts v s m.1 (omega arith) z

pub fits_null : {V : Type 0} (fs : Fields V) (n : ℕ) (ts : List Term) (v : V) (k : FieldRule) → Fits (slots fs) ts v
    → n < length (rules_of (slots fs)) → is_required (get_or (rules_of (slots fs)) n k) ≡ true
    → is_null (get_or ts n (leaf null)) ≡ true → ⊥
unfolding Fits
fits_null none n ts v k m l r z = absurd (omega arith)
fits_null (field get f fs) zero [] v k m l r z = f.slot.required (get v) r m.0
fits_null (field get f fs) zero (t ∷ ts) v k m l r z = f.slot.required (get v) r (f.slot.null_alike t (get v) z m.0)
fits_null (field get f fs) (suc n) [] v k m l r z = fits_null fs n [] v k m.1 (omega arith) r refl
fits_null (field get f fs) (suc n) (t ∷ ts) v k m l r z = fits_null fs n ts v k m.1 (omega arith) r z

pub fits_few : {V : Type 0} (fs : Fields V) (ts : List Term) (v : V) → Fits (slots fs) ts v → length ts ≤ length (rules_of (slots fs))
unfolding Fits
fits_few none [] v m = omega arith
fits_few none (t ∷ ts) v m = absurd m
fits_few (field get f fs) [] v m = omega arith
fits_few (field get f fs) (t ∷ ts) v m = omega (arith, fits_few fs ts v m.1)

-- What was read into a field, by its number.
pub filled_at : {V : Type 0} (fs : Fields V) (n : ℕ) (v w : V) (st b : State) → n < length (rules_of (slots fs))
    → FillsField fs n v w st (Ok tt) b → ReadsValue (MeansAt fs n) st w b × KeepsBut fs n v w
filled_at none n v w st b l h = absurd (omega arith)
filled_at (field get f fs) zero v w st b l h =
    (record { bytes = h.0.bytes; term = h.0.term; stands = h.0.stands; moved = h.0.moved; meant = h.0.meant }, h.1 refl)
filled_at (field get f fs) (suc n) v w st b l h =
    let r = filled_at fs n v w st b (omega arith) h.1 in
    (record { bytes = r.0.bytes; term = r.0.term; stands = r.0.stands; moved = r.0.moved; meant = r.0.meant }, (h.0 refl, r.1))

-- why none was
pub unfilled_at : {V : Type 0} (fs : Fields V) (n : ℕ) (v w : V) (st : State) (e : Error) (b : State) → n < length (rules_of (slots fs))
    → FillsField fs n v w st (Err e) b → RefusesAt (take_memory fs) (ReadsValue (MeansAt fs n)) (FaultAt fs n) st e b
unfilled_at none n v w st e b l h = absurd (omega arith)
unfilled_at (field get f fs) zero v w st e b l h =
    refused_first (ReadsValue f.reads) f.faults.fault (ReadsValue (MeansAt (field get f fs) zero)) (FaultAt (field get f fs) zero) st e b
    (either_first f.takes_memory (take_memory fs)) (λ _ x. x)
    (λ none x c r. none (get x) c (record { bytes = r.bytes; term = r.term; stands = r.stands; moved = r.moved; meant = r.meant })) h.0
unfilled_at (field get f fs) (suc n) v w st e b l h =
    refused_first (ReadsValue (MeansAt fs n)) (FaultAt fs n) (ReadsValue (MeansAt (field get f fs) (suc n)))
    (FaultAt (field get f fs) (suc n)) st e b (either_second f.takes_memory (take_memory fs)) (λ _ x. x)
    (λ none x c r. none x c (record { bytes = r.bytes; term = r.term; stands = r.stands; moved = r.moved; meant = r.meant }))
    (unfilled_at fs n v w st e b (omega arith) h.1)

pub absent : (k : FieldRule) (e : Error) → absence k ≡ Some e → is_required k ≡ true
absent Mandatory e h = refl
absent MandatoryMultiple e h = refl
absent Optional e h = cc
absent Default e h = cc
absent Multiple e h = cc

pub not_absent : (k : FieldRule) → absence k ≡ None → is_required k ≡ false
not_absent Mandatory h = cc
not_absent MandatoryMultiple h = cc
not_absent Optional h = refl
not_absent Default h = refl
not_absent Multiple h = refl

-- No fault of a field is want of memory.
fault_at_not_outside : (e : Located) → IsOutside e.error → {V : Type 0} (fs : Fields V) (i : ℕ) (st : State) → FaultAt fs i st e → ⊥
fault_at_not_outside e out none i st f = f
fault_at_not_outside e out (field get f fs) zero st x = f.faults.not_outside e out st x
fault_at_not_outside e out (field get f fs) (suc i) st x = fault_at_not_outside e out fs i st x

pub absence_not_outside : {e : Error} → IsOutside e → (k : FieldRule) → absence k ≡ Some e → ⊥
absence_not_outside out Mandatory h = subst IsOutside (sym (ap (λ x. unwrap_or x Missing) h)) out
absence_not_outside out MandatoryMultiple h = subst IsOutside (sym (ap (λ x. unwrap_or x Missing) h)) out
absence_not_outside out Optional h = cc
absence_not_outside out Default h = cc
absence_not_outside out Multiple h = cc

item_not_outside : {e : Located} → IsOutside e.error → {V : Type 0} (fs : Fields V) (i : ℕ) (st : State) → ItemFault fs i st e → ⊥
item_not_outside out fs i st (no_item f) = begin_not_outside out st f.0
item_not_outside out fs i st (null_item h is place) = absence_not_outside out (rule_at fs i) is
item_not_outside {e} out fs i st (in_item {c} {mid} p n f) = fault_at_not_outside e out fs i mid f

pub fields_not_outside : {e : Located} → IsOutside e.error → {V : Type 0} (fs : Fields V) (st : State) → FieldsFault fs st e → ⊥
fields_not_outside out fs st (no_list f) = open_not_outside out list st f.0
fields_not_outside out fs st (at_item {n} {i} {v} {mid} h l k f) = item_not_outside out fs i mid f
fields_not_outside out fs st (left_out {n} {i} h l k is place) = absence_not_outside out (rule_at fs i) is
fields_not_outside out fs st (not_ended {n} {v} {mid} h f) = close_not_outside out InList mid f.0
