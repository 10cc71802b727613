use Rattle.std.proofs.Common.{◌≡◌, List, ◌∷◌, Option, Some, Ordering, Greater, sym, ap, ◌∙◌}
use Rattle.std.specs.Cmp.Lexicographic.{slice_partial_cmp}
use Rattle.std.specs.Map.Iter.{deref_pair}
use Rattle.std.specs.Ordering.{partial_ordering_then}
use Rattle.amqp_maps.proofs.compared.OrderedMapPartialOrd.partial_cmp.Goals as goal

-- the first items decide, if they differ
greater_first : {A : Type 0} (by : A → A → Option Ordering) (x y : A) (xs ys ps qs : List A) → ps ≡ x ∷ xs → qs ≡ y ∷ ys
    → by x y ≡ Some Greater → slice_partial_cmp by ps qs ≡ Some Greater
greater_first by x y xs ys ps qs e f h =
    (λ j. slice_partial_cmp by (e j) (f j)) ∙ ap (λ o. partial_ordering_then o (slice_partial_cmp by xs ys)) h

pub returns-in-Some-Greater : goal.returns-in-Some-Greater
returns-in-Some-Greater g c =
    let by : g.row.K.Denot × g.row.V.Denot → g.row.K.Denot × g.row.V.Denot → Option Ordering =
    λ p q. partial_ordering_then (g.K.PartialOrd.partial_cmp p.0 q.0) (g.V.PartialOrd.partial_cmp p.1 q.1) in
    sym (greater_first by (deref_pair c.in-Some.pair) (deref_pair c.in-Some-next.other_pair) c.next.new.self c.next-in-Some.new.self
    c.loop-pair.left c.loop-pair.right c.in-Some.ensures.steps c.in-Some-next.ensures.steps
    (sym c.partial_cmp.ensures ∙ c.in-Some-Greater.is ∙ ap Some c.in-Some-Greater.field-0-is))
    ∙ c.loop-pair.invariant
    ∙ (λ j. slice_partial_cmp by (c.iter-left.ensures.pairs j) (c.iter-right.ensures.pairs j))
