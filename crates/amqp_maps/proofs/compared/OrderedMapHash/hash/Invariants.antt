use Rattle.std.proofs.Common.{◌≡◌, ◌++◌, length, fold}
use Rattle.std.specs.List.{flat_map}
use Rattle.amqp_maps.proofs.compared.OrderedMapHash.hash.Given as goal

-- what is hashed so far and what is left are what was left
abbrev pub invariant-loop-pair : goal.invariant-loop-pair
invariant-loop-pair g l =
    let writes = flat_map (λ (p : g.row.K.Denot × g.row.V.Denot). g.K.Hash.hash_input p.0 ++ g.V.Hash.hash_input p.1) in
    fold g.H.Hasher.write l.state (writes l.rest) ≡ fold g.H.Hasher.write l.initial.state (writes l.initial.rest)

abbrev pub decreases-loop-pair : goal.decreases-loop-pair
decreases-loop-pair g l = length l.rest
