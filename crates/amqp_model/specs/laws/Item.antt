-- Facts about the items of a composite value.
use Rattle.std.proofs.Common.{◌≡◌, Bool, true, false, cond, List, [], ◌∷◌, refl, ap, inl, inr}
use Rattle.amqp_model.specs.Term.{Term, Refusal, leaf, container, described, kept, barred}
use Rattle.amqp_model.specs.Items.{terms_of, items_of, is_null, several, is_left_out, BarsAny, IsFree, before_nulls}

pub clash : {b : Bool} → b ≡ true → b ≡ false → ⊥
clash p q = cc

pub items_of-terms_of : (ts : List Term) → items_of (terms_of ts) ≡ ts
items_of-terms_of [] = refl
items_of-terms_of (t ∷ ts) = ap (λ us. t ∷ us) (items_of-terms_of ts)

pub several_null : (t : Term) → is_null t ≡ true → several t ≡ []
several_null (leaf p) h = rw h refl
several_null (container k ts) h = absurd (clash h refl)
several_null (described d t) h = absurd (clash h refl)
several_null (kept b) h = rw h refl
several_null (barred r) h = absurd (clash h refl)

-- no refusal stands in any of the terms
abbrev pub AreFree : List Term → Type 0
AreFree ts = (r : Refusal) → BarsAny r (terms_of ts) → ⊥

pub free_items : (t : Term) (ts : List Term) → IsFree t → AreFree ts → AreFree (t ∷ ts)
free_items t ts f g r (inl h) = f r h
free_items t ts f g r (inr h) = g r h

null_free : (t : Term) → is_null t ≡ true → IsFree t
null_free (leaf p) e r h = h
null_free (container k ts) e r h = clash e refl
null_free (described d t) e r h = clash e refl
null_free (kept b) e r h = h
null_free (barred s) e r h = clash e refl

-- only a null is left out
pub left_out_null : (t : Term) → is_left_out t ≡ true → is_null t ≡ true
left_out_null t e = cc

free_at : (t : Term) (b : Bool) → is_left_out t ≡ b → AreFree (cond b [] (t ∷ [])) → IsFree t
free_at t true e f = null_free t (left_out_null t e)
free_at t false e f = λ r h. f r (inl h)

pub free_before : (t : Term) (ts : List Term) → AreFree (before_nulls t ts) → IsFree t × AreFree ts
free_before t [] f = (free_at t (is_left_out t) refl f, λ r h. h)
free_before t (u ∷ us) f = (λ r h. f r (inl h), λ r h. f r (inr h))

before_free_at : (t : Term) (b : Bool) → IsFree t → AreFree (cond b [] (t ∷ []))
before_free_at t true f = λ r h. h
before_free_at t false f = free_items t [] f (λ r h. h)

pub before_free : (t : Term) (ts : List Term) → IsFree t → AreFree ts → AreFree (before_nulls t ts)
before_free t [] f g = before_free_at t (is_left_out t) f
before_free t (u ∷ us) f g = free_items t (u ∷ us) f g
