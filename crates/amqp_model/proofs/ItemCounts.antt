-- How many items fit a table, and which may be missing.
use Rattle.std.proofs.Common.{◌≡◌, ℕ, zero, suc, ◌≤◌, ◌<◌, ◌++◌, Bool, true, false, cond, List, [], ◌∷◌, length, get_or, refl, arith}
use Rattle.amqp_model.specs.Term.{null, Term, leaf}
use Rattle.amqp_model.specs.Items.{is_null, is_left_out, before_nulls}
use Rattle.amqp_model.specs.laws.Item.{clash}
use Rattle.amqp_model.specs.declared.tables.FieldRule.TheVariants.{Optional}
use Rattle.amqp_model.specs.Slot.{Slot, is_required}
use Rattle.amqp_model.specs.Fields.{Fields, none, field, rules_of, Fits, canonical_items}

-- a null before nothing is left out
before_none : (t : Term) (ts : List Term) → is_null t ≡ true → length ts ≤ 0 → length (before_nulls t ts) ≤ 0
before_none t [] e l = rw e (omega arith)
before_none t (u ∷ us) e l = absurd (omega arith)

before_at : (t : Term) (b : Bool) → length (cond b [] (t ∷ [])) ≤ 1
before_at t true = omega arith
before_at t false = omega arith

before_more : (t : Term) (ts : List Term) (n : ℕ) → length ts ≤ n → length (before_nulls t ts) ≤ suc n
before_more t [] n l = omega (arith, before_at t (is_left_out t))
before_more t (u ∷ us) n l = omega arith

-- No fewer items are the value than its canonical ones.
pub canonical_fewest : {V : Type 0} (fs : Fields V) (ts : List Term) (v : V) → Fits fs ts v → length (canonical_items fs v) ≤ length ts
unfolding Fits canonical_items
canonical_fewest none ts v h = omega arith
canonical_fewest (field get s fs) [] v h =
    before_none (s.meaning.canon (get v)) (canonical_items fs v) (s.null_canon (get v) h.0) (canonical_fewest fs [] v h.1)
canonical_fewest (field get s fs) (t ∷ ts) v h =
    before_more (s.meaning.canon (get v)) (canonical_items fs v) (length ts) (canonical_fewest fs ts v h.1)

-- There are no more items than fields.
pub fits_within : {V : Type 0} (fs : Fields V) (ts : List Term) (v : V) → Fits fs ts v → length ts ≤ length (rules_of fs)
unfolding Fits
fits_within none [] v h = omega arith
fits_within none (t ∷ ts) v h = absurd h
fits_within (field get s fs) [] v h = omega arith
fits_within (field get s fs) (t ∷ ts) v h = omega (arith, fits_within fs ts v h.1)

-- A null at the end is as a missing item.
pub fits_without_null : {V : Type 0} (fs : Fields V) (ts : List Term) (v : V) → Fits fs (ts ++ leaf null ∷ []) v → Fits fs ts v
unfolding Fits
fits_without_null none [] v h = absurd h
fits_without_null none (t ∷ ts) v h = absurd h
fits_without_null (field get s fs) [] v h = h
fits_without_null (field get s fs) (t ∷ ts) v h = (h.0, fits_without_null fs ts v h.1)

pub fits_with_null : {V : Type 0} (fs : Fields V) (ts : List Term) (v : V) → length ts < length (rules_of fs) → Fits fs ts v
    → Fits fs (ts ++ leaf null ∷ []) v
unfolding Fits
fits_with_null none ts v l h = absurd (omega arith)
fits_with_null (field get s fs) [] v l h = h
fits_with_null (field get s fs) (t ∷ ts) v l h = (h.0, fits_with_null fs ts v (omega arith) h.1)

is_there : {T : Type 0} (s : Slot T) (t : Term) (v : T) (b : Bool) → is_null t ≡ b → is_required s.rule ≡ true
    → s.meaning.means t v → is_null t ≡ false
is_there s t v true e r h = absurd (s.required v r (s.null_alike t v e h))
is_there s t v false e r h = e

-- An item of a field that null doesn't fit is there, and isn't null.
pub fits_required : {V : Type 0} (fs : Fields V) (ts : List Term) (v : V) (k : ℕ) → Fits fs ts v
    → is_required (get_or (rules_of fs) k Optional) ≡ true → is_null (get_or ts k (leaf null)) ≡ false
unfolding Fits
fits_required none ts v k h r = absurd (clash r refl)
fits_required (field get s fs) [] v zero h r = absurd (s.required (get v) r h.0)
fits_required (field get s fs) [] v (suc k) h r = fits_required fs [] v k h.1 r
fits_required (field get s fs) (t ∷ ts) v zero h r = is_there s t (get v) (is_null t) refl r h.0
fits_required (field get s fs) (t ∷ ts) v (suc k) h r = fits_required fs ts v k h.1 r
