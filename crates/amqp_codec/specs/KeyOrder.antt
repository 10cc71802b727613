-- Pairs in the order of their keys.
use Rattle.std.proofs.Common.{cond, List, [], ◌∷◌, Ordering}
use Rattle.std.specs.Ordering.{is_eq, is_gt}
use Rattle.std.specs.Bool.{Decides}
use Rattle.std.specs.Cmp.{IsTotalOrder}

-- The pair in front of the first whose key isn't below its own.
abbrev pub place : {K V : Type 0} → (K → K → Ordering) → K × V → List (K × V) → List (K × V)
place cmp p [] = p ∷ []
place cmp p (q ∷ qs) = cond (is_gt (cmp p.0 q.0)) (q ∷ place cmp p qs) (p ∷ q ∷ qs)

-- The pairs in the order of their keys.
abbrev pub in_order : {K V : Type 0} → (K → K → Ordering) → List (K × V) → List (K × V)
in_order cmp [] = []
in_order cmp (p ∷ ps) = place cmp p (in_order cmp ps)

-- A total order, whose ties are the same key.
pub record IsOrderOf {K : Type 0} (cmp : K → K → Ordering) (same : K → K → Type 0) : Type 0 where
  pub total : IsTotalOrder cmp
  pub ties : (k l : K) → Decides (is_eq (cmp k l)) (same k l)
