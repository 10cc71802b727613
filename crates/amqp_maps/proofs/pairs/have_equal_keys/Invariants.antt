use Rattle.std.proofs.Common.{◌≡◌, length}
use Rattle.std.specs.Cmp.Lexicographic.{pointwise}
use Rattle.amqp_maps.proofs.pairs.have_equal_keys.Given as goal

-- the keys that are left compare as all of them do
abbrev pub invariant-loop-key : goal.invariant-loop-key
invariant-loop-key g l =
    let same = pointwise (λ p q. g.K.PartialEq.eq p.0 q.0) in same l.left l.right ≡ same l.initial.left l.initial.right

abbrev pub decreases-loop-key : goal.decreases-loop-key
decreases-loop-key g l = length l.left
