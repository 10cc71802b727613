-- Items that rise from each to the next: no two are equal, and sorted items of which no two are equal rise.
use Rattle.std.proofs.Common.{◌≡◌, ℕ, zero, suc, ◌+◌, ◌<◌, ◌≤◌, Bool, true, false, List, [], ◌∷◌, length, get_or, Ordering, Less, Equal, Greater, arith, refl}
use Rattle.std.proofs.Common.{IsPermutation, sym, ap, ◌∙◌}
use Rattle.std.specs.Bool.{Decides}
use Rattle.std.specs.Cmp.{IsTotalOrder}
use Rattle.std.specs.List.{IsDistinct}
use Rattle.std.specs.List.Sorted.{IsSorted, IsStrictlySortedBy}
use Rattle.std.specs.Ordering.{eq_by_cmp, is_lt, is_eq, ordering_reverse}
use Rattle.std.proofs.lemmas.Cmp.{eq_by_cmp_equiv}
use Rattle.std.proofs.lemmas.List.Sorted.{IsPermutation-sym}
use Rattle.std.proofs.lemmas.Map.Keys.{IsDistinct-IsPermutation, IsDistinct-from_sorted, sorted_from_all_adjacent, apart_from_distinct}

-- what is not equal, and not greater, is less
less_so : (a b : Ordering) → a ≡ ordering_reverse b → is_lt b ≡ false → is_eq a ≡ false → a ≡ Less
less_so Less b e f n = refl
less_so Equal b e f n = cc
less_so Greater Less e f n = cc
less_so Greater Equal e f n = cc
less_so Greater Greater e f n = cc

module _ {K : Type 0} (c : K → K → Ordering) where
  -- each is less than the next
  abbrev pub RisesTo : ℕ → List K → Type 0
  RisesTo n xs = (d : K) (k : ℕ) → k + 1 < n → c (get_or xs k d) (get_or xs (k + 1) d) ≡ Less

  nothing : (k : ℕ) → k + 1 < 0 → ⊥
  nothing k h = omega arith

  alone : 0 + 1 < 1 → ⊥
  alone h = omega arith

  rising_at : (xs : List K) (k : ℕ) (d : K) → IsStrictlySortedBy c xs → k + 1 < length xs → c (get_or xs k d) (get_or xs (k + 1) d) ≡ Less
  unfolding IsStrictlySortedBy
  rising_at [] k d s h = absurd (nothing k h)
  rising_at (x ∷ []) zero d s h = absurd (alone h)
  rising_at (x ∷ y ∷ ys) zero d s h = s.0.0
  rising_at (x ∷ xs) (suc k) d s h = let next : suc k + 1 ≡ suc (k + 1) = omega arith in rw next (rising_at xs k d s.1 (omega arith))

  no_less : (a : Ordering) → a ≡ Less → is_lt a ≡ false → ⊥
  no_less a e f = cc

  -- somewhere they stop to rise
  pub stops : (xs : List K) (k : ℕ) → k + 1 < length xs → ((d : K) → is_lt (c (get_or xs k d) (get_or xs (k + 1) d)) ≡ false)
      → IsStrictlySortedBy c xs → ⊥
  stops [] k h f s = omega arith
  stops (x ∷ xs) k h f s = no_less _ (rising_at (x ∷ xs) k x s h) (f x)

module _ {K : Type 0} (c : K → K → Ordering) (o : IsTotalOrder c) where
  pub strictly_from_rising : (xs : List K) (n : ℕ) → length xs ≤ n → RisesTo c n xs → IsStrictlySortedBy c xs
  unfolding IsStrictlySortedBy
  strictly_from_rising [] n l h = tt
  strictly_from_rising (x ∷ xs) n l h = sorted_from_all_adjacent o (x ∷ xs) x (λ k inside. h x k (omega arith))

  strictly_from_distinct : (xs : List K) → IsSorted c xs → IsDistinct (eq_by_cmp c) xs → IsStrictlySortedBy c xs
  unfolding IsStrictlySortedBy
  strictly_from_distinct [] s h = tt
  strictly_from_distinct (x ∷ xs) s h =
      let all = x ∷ xs in
      sorted_from_all_adjacent o all x
      (λ k inside. less_so (c (get_or all k x) (get_or all (k + 1) x)) (c (get_or all (k + 1) x) (get_or all k x)) (o.antisymm _ _)
      (s k x (omega arith) inside) (apart_from_distinct (eq_by_cmp c) all k (k + 1) x h (omega arith) inside))

  same_apart : (xs ys : List K) → IsPermutation xs ys → IsDistinct (eq_by_cmp c) xs → IsDistinct (eq_by_cmp c) ys
  same_apart xs ys = IsDistinct-IsPermutation (eq_by_cmp c) (eq_by_cmp_equiv o).symm xs ys

  -- whether items are apart, by whether they rise once they are sorted
  pub sorted_tells : (old new : List K) (b : Bool) → IsPermutation old new → IsSorted c new → Decides b (IsStrictlySortedBy c new)
      → Decides b (IsDistinct (eq_by_cmp c) old)
  sorted_tells old new b p s d = (
    λ e. same_apart new old (IsPermutation-sym old new p) (IsDistinct-from_sorted c new (d.0 e)),
    λ h. d.1 (strictly_from_distinct new s (same_apart old new p h)),
  )
