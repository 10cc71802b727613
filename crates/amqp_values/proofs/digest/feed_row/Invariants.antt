use Rattle.std.proofs.Common.{◌≡◌, drop, map}
use Rattle.std.specs.List.{fold}
use Rattle.amqp_model.specs.Items.{terms_of}
use Rattle.amqp_values.specs.Digests.{leaves_fed}
use Rattle.amqp_values.specs.Values.{value_term}
use Rattle.amqp_values.proofs.digest.feed_row.Given as goal

abbrev pub invariant-loop-index : goal.invariant-loop-index
invariant-loop-index g l =
    fold g.H.Hasher.write l.state (leaves_fed (terms_of (map value_term (drop l.index l.values))))
    ≡ fold g.H.Hasher.write l.fn.state (leaves_fed (terms_of (map value_term l.values)))
