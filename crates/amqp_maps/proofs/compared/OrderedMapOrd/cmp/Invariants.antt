use Rattle.std.proofs.Common.{◌≡◌, length}
use Rattle.std.specs.Cmp.Lexicographic.{slice_cmp}
use Rattle.std.specs.Ordering.{ordering_then}
use Rattle.amqp_maps.proofs.compared.OrderedMapOrd.cmp.Given as goal

abbrev pub invariant-loop-pair : goal.invariant-loop-pair
invariant-loop-pair g l = let order = slice_cmp (λ p q. ordering_then (g.K.Ord.cmp p.0 q.0) (g.V.Ord.cmp p.1 q.1)) in
    order l.left l.right ≡ order l.initial.left l.initial.right

abbrev pub decreases-loop-pair : goal.decreases-loop-pair
decreases-loop-pair g l = length l.left
