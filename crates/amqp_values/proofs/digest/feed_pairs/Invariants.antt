use Rattle.std.proofs.Common.{◌≡◌, drop}
use Rattle.std.specs.List.{fold}
use Rattle.amqp_values.specs.Digests.{leaves_fed}
use Rattle.amqp_values.specs.Equality.{turn_terms}
use Rattle.amqp_values.proofs.digest.feed_pairs.Given as goal

abbrev pub invariant-loop-index : goal.invariant-loop-index
invariant-loop-index g l =
    fold g.H.Hasher.write l.state (leaves_fed (turn_terms (drop l.index l.pairs)))
    ≡ fold g.H.Hasher.write l.fn.state (leaves_fed (turn_terms l.pairs))
