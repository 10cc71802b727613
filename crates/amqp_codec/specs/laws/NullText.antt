-- Null as kept bytes has null's text.
use Rattle.std.proofs.Common.{◌≡◌, ℕ, Bool, true, false, cond, eqb, List, [], ◌∷◌, ◌++◌, refl, sym, ap, ◌∙◌, suc, inl, inr}
use Rattle.std.proofs.lemmas.Bool.{eqb-true}
use Rattle.amqp_model.specs.Term.{null, lazy_in_array, Container, list, map, array, Term, Terms, leaf, container, described, kept, barred}
use Rattle.amqp_model.specs.Term.{none, more, count}
use Rattle.amqp_model.specs.Text.{Place, Alone, First, Later, next, first_place, descriptor_text, text, texts}
use Rattle.amqp_model.specs.Refusals.{Somewhere, SomewhereIn, IsItem, IsRefused, core}
use Rattle.amqp_codec.specs.NullsAlike.{nulls_alike, all_nulls_alike, kept_null_alike}
use Rattle.amqp_codec.specs.TermType.{IsKept}

count-nulls_alike : (ts : Terms) → count (all_nulls_alike ts) ≡ count ts
count-nulls_alike none = refl
count-nulls_alike (more t ts) = ap suc (count-nulls_alike ts)

-- where kept bytes may stand
abbrev MayKeep : Place → Term → Type 0
MayKeep Alone t = Unit {0}
MayKeep _ t = IsKept (core t) → ⊥

abbrev MayAllKeep : Place → Terms → Type 0
MayAllKeep Alone ts = Unit {0}
MayAllKeep _ ts = (t : Term) → IsItem t ts → IsKept (core t) → ⊥

abbrev pub NoneKept : Term → Type 0
NoneKept t = Somewhere (IsRefused lazy_in_array) t → ⊥

abbrev NoneKeptIn : Terms → Type 0
NoneKeptIn ts = SomewhereIn (IsRefused lazy_in_array) ts → ⊥

kept_core : (t u : Term) → u ≡ core t → IsKept u → (b : List ℕ) × (core t ≡ kept b)
kept_core t (kept b) e h = (b, sym e)
kept_core t (leaf p) e h = absurd h
kept_core t (container k ts) e h = absurd h
kept_core t (described d u) e h = absurd h
kept_core t (barred r) e h = absurd h

items_keep : (k : Container) (ts : Terms) → NoneKept (container k ts) → MayAllKeep (first_place k) ts
items_keep list ts h = tt
items_keep map ts h = tt
items_keep array ts h = λ t i k. (let c = kept_core t (core t) refl k in h (inl (inr (t, c.0, i, c.1))))

first_keeps : (place : Place) (t : Term) (ts : Terms) → MayAllKeep place (more t ts) → MayKeep place t
first_keeps Alone t ts h = tt
first_keeps First t ts h = h t (inl refl)
first_keeps Later t ts h = h t (inl refl)

others_keep : (place : Place) (t : Term) (ts : Terms) → MayAllKeep place (more t ts) → MayAllKeep (next place) ts
others_keep Alone t ts h = tt
others_keep First t ts h = λ u i. h u (inr i)
others_keep Later t ts h = λ u i. h u (inr i)

null_text : (b : ℕ) (test : Bool) → eqb b 0x40 ≡ test → text (cond test (leaf null) (kept (b ∷ []))) Alone ≡ b ∷ []
unfolding text
null_text b true e = ap (λ n. n ∷ []) (sym (eqb-true b 0x40 e))
null_text b false e = refl

kept_text : (b : List ℕ) → text (kept_null_alike b) Alone ≡ b
unfolding text
kept_text [] = refl
kept_text (b ∷ []) = null_text b (eqb b 0x40) refl
kept_text (b ∷ c ∷ bs) = refl

mutual
  unfolding text texts

  nulls_alike_text_at : (t : Term) (place : Place) → MayKeep place t → NoneKept t → text (nulls_alike t) place ≡ text t place
  nulls_alike_text_at (leaf p) place k h = refl
  nulls_alike_text_at (container c ts) place k h =
      rw (count-nulls_alike ts, nulls_alike_texts_at ts (first_place c) (items_keep c ts h) (λ i. h (inr i))) refl
  nulls_alike_text_at (described d t) Alone k h = ap (λ b. descriptor_text Alone d ++ b) (nulls_alike_text_at t Alone tt (λ i. h (inr i)))
  nulls_alike_text_at (described d t) First k h = ap (λ b. descriptor_text First d ++ b) (nulls_alike_text_at t First k (λ i. h (inr i)))
  nulls_alike_text_at (described d t) Later k h = ap (λ b. descriptor_text Later d ++ b) (nulls_alike_text_at t Later k (λ i. h (inr i)))
  nulls_alike_text_at (kept b) Alone k h = kept_text b
  nulls_alike_text_at (kept b) First k h = absurd (k tt)
  nulls_alike_text_at (kept b) Later k h = absurd (k tt)
  nulls_alike_text_at (barred r) place k h = refl

  nulls_alike_texts_at : (ts : Terms) (place : Place) → MayAllKeep place ts → NoneKeptIn ts
      → texts (all_nulls_alike ts) place ≡ texts ts place
  nulls_alike_texts_at none place k h = refl
  nulls_alike_texts_at (more t ts) place k h =
      rw (
        nulls_alike_text_at t place (first_keeps place t ts k) (λ i. h (inl i)),
        nulls_alike_texts_at ts (next place) (others_keep place t ts k) (λ i. h (inr i)),
      ) refl

-- two canonical terms that are alike have one text
pub alike_texts : (t u : Term) → NoneKept t → NoneKept u → nulls_alike t ≡ nulls_alike u → text t Alone ≡ text u Alone
alike_texts t u h k e = sym (nulls_alike_text_at t Alone tt h) ∙ ap (λ x. text x Alone) e ∙ nulls_alike_text_at u Alone tt k
