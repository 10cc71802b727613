-- Rows of pairs are equal where the keys and the values in each place are.
use Rattle.std.proofs.Common.{◌≡◌, Bool, true, ◌&&◌, List, [], ◌∷◌, refl}
use Rattle.std.specs.List.{AllZip}
use Rattle.std.specs.Cmp.Lexicographic.{pointwise}
use Rattle.std.proofs.lemmas.Bool.{and_from}

module _ {K V : Type 0} (C : K → K → Type 0) (D : V → V → Type 0) (E : K → K → Bool) (F : V → V → Bool)
    (keys : (k l : K) → C k l → E k l ≡ true) (values : (v w : V) → D v w → F v w ≡ true) where
  pub equal_pairs : (ps qs : List (K × V)) → AllZip (λ p q. C p.0 q.0 × D p.1 q.1) ps qs
      → pointwise (λ p q. E p.0 q.0 && F p.1 q.1) ps qs ≡ true
  equal_pairs [] [] h = refl
  equal_pairs [] (q ∷ qs) h = absurd h
  equal_pairs (p ∷ ps) [] h = absurd h
  equal_pairs (p ∷ ps) (q ∷ qs) h =
      and_from (E p.0 q.0 && F p.1 q.1) _ (and_from (E p.0 q.0) (F p.1 q.1) (keys p.0 q.0 h.0.0) (values p.1 q.1 h.0.1))
      (equal_pairs ps qs h.1)
