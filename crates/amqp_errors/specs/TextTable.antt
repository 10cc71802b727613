-- The value of a list that has a text.
use Rattle.std.proofs.Common.{◌≡◌, ℕ, Bool, true, false, cond, ◌&&◌, List, [], ◌∷◌, Option, Some, None, bytes_eq, refl, ap, ◌∙◌}
use Rattle.std.specs.Cmp.{first_so, second_so}
use Rattle.std.proofs.lemmas.Slice.Eq.{bytes_eq-Decides}
use Rattle.amqp_sums.specs.Restricted.{IsUnknown}

module _ {V : Type 0} (texts : V → List ℕ) where
  -- the first of them, if any
  abbrev pub find_text : List V → List ℕ → Option V
  find_text [] text = None
  find_text (v ∷ vs) text = cond (bytes_eq (texts v) text) (Some v) (find_text vs text)

  -- what is found has the text
  pub found_has_text : (vs : List V) (text : List ℕ) (w : V) → find_text vs text ≡ Some w → texts w ≡ text
  found_has_text [] text w e = absurd (cc)
  found_has_text (v ∷ vs) text w e = go (bytes_eq (texts v) text) refl e (found_has_text vs text w)
    where
      go : (b : Bool) → bytes_eq (texts v) text ≡ b → cond b (Some v) (find_text vs text) ≡ Some w
          → (find_text vs text ≡ Some w → texts w ≡ text) → texts w ≡ text
      go true t h k = let l : w ≡ v = cc in ap texts l ∙ (bytes_eq-Decides (texts v) text).0 t
      go false t h k = k h

  -- and passes a test that all of them pass
  abbrev pub all_pass : (V → Bool) → List V → Bool
  all_pass test [] = true
  all_pass test (v ∷ vs) = test v && all_pass test vs

  pub found_passes : (test : V → Bool) (vs : List V) → all_pass test vs ≡ true → (text : List ℕ) (w : V) → find_text vs text ≡ Some w
      → test w ≡ true
  found_passes test [] h text w e = absurd (cc)
  found_passes test (v ∷ vs) h text w e =
      go (bytes_eq (texts v) text) e (found_passes test vs (second_so (test v) (all_pass test vs) h) text w)
    where
      go : (b : Bool) → cond b (Some v) (find_text vs text) ≡ Some w → (find_text vs text ≡ Some w → test w ≡ true) → test w ≡ true
      go true l k = let m : w ≡ v = cc in ap test m ∙ first_so (test v) (all_pass test vs) h
      go false l k = k l

-- Each value of E is found in the list by its text, which is so made of it.
abbrev pub AreFound : {E V : Type 0} → (V → List ℕ) → List V → (E → V) → Type 0
AreFound {E} texts vs make = (e : E) → find_text texts vs (texts (make e)) ≡ Some (make e)

module _ {E V : Type 0} (texts : V → List ℕ) (vs : List V) (make : E → V) (found : AreFound texts vs make) where
  -- then no two that are made have one text
  pub made_apart : (v w : E) → texts (make v) ≡ texts (make w) → make v ≡ make w
  made_apart v w e = let f = found v in let g = found w in let h = ap (find_text texts vs) e in cc

  -- and a text that isn't found is none of theirs
  pub not_found_unknown : (text : List ℕ) → find_text texts vs text ≡ None → IsUnknown (λ e. texts (make e)) text
  not_found_unknown text n e h = let f = found e in let g = ap (find_text texts vs) h in absurd (cc)
