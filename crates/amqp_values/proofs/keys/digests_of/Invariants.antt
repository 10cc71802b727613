use Rattle.std.proofs.Common.{◌≡◌, map, take}
use Rattle.amqp_values.specs.Digests.{value_digest}
use Rattle.amqp_values.proofs.keys.digests_of.Given as goal

abbrev pub invariant-loop-pair : goal.invariant-loop-pair
invariant-loop-pair l = l.digests.items ≡ map (λ p. value_digest p.0) (take l.pair-index l.pairs)
