use Rattle.std.proofs.Common.{◌≡◌, map, take}
use Rattle.amqp_values.proofs.keys.keys_of.Given as goal

abbrev pub invariant-loop-pair : goal.invariant-loop-pair
invariant-loop-pair l = map (λ k. k.now) l.keys.items ≡ map (λ p. p.0) (take l.pair-index l.pairs)
