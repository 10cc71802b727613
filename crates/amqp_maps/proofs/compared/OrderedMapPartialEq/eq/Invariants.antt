use Rattle.std.proofs.Common.{◌≡◌, ◌&&◌, length}
use Rattle.std.specs.Cmp.Lexicographic.{pointwise}
use Rattle.amqp_maps.proofs.compared.OrderedMapPartialEq.eq.Given as goal

-- the lists that are left compare as the whole ones do
abbrev pub invariant-loop-pair : goal.invariant-loop-pair
invariant-loop-pair g l = let same = pointwise (λ p q. g.K.PartialEq.eq p.0 q.0 && g.V.PartialEq.eq p.1 q.1) in
    same l.left l.right ≡ same l.initial.left l.initial.right

abbrev pub decreases-loop-pair : goal.decreases-loop-pair
decreases-loop-pair g l = length l.left
