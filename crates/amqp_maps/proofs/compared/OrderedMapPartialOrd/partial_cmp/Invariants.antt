use Rattle.std.proofs.Common.{◌≡◌, length}
use Rattle.std.specs.Cmp.Lexicographic.{slice_partial_cmp}
use Rattle.std.specs.Ordering.{partial_ordering_then}
use Rattle.amqp_maps.proofs.compared.OrderedMapPartialOrd.partial_cmp.Given as goal

abbrev pub invariant-loop-pair : goal.invariant-loop-pair
invariant-loop-pair g l =
    let key = g.K.PartialOrd.partial_cmp in
    let value = g.V.PartialOrd.partial_cmp in
    let order = slice_partial_cmp (λ p q. partial_ordering_then (key p.0 q.0) (value p.1 q.1)) in
    order l.left l.right ≡ order l.initial.left l.initial.right

abbrev pub decreases-loop-pair : goal.decreases-loop-pair
decreases-loop-pair g l = length l.left
