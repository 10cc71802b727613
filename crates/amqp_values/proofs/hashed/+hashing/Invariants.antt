use Rattle.std.proofs.Common.{◌≡◌, drop, map}
use Rattle.std.specs.List.{fold}
use Rattle.amqp_model.specs.Items.{terms_of}
use Rattle.amqp_values.specs.Values.{value_term}
use Rattle.amqp_values.specs.Equality.{turn_terms}
use Rattle.amqp_values.specs.Hashed.{fed_terms}
use Rattle.amqp_values.proofs.hashed.+hashing.Given as goal

abbrev pub invariant-hash_row-loop-index : goal.invariant-hash_row-loop-index
invariant-hash_row-loop-index g l =
    fold g.H.Hasher.write l.state (fed_terms (terms_of (map value_term (drop l.index l.values))))
    ≡ fold g.H.Hasher.write l.fn.state (fed_terms (terms_of (map value_term l.values)))

abbrev pub invariant-hash_pairs-loop-index : goal.invariant-hash_pairs-loop-index
invariant-hash_pairs-loop-index g l =
    fold g.H.Hasher.write l.state (fed_terms (turn_terms (drop l.index l.pairs)))
    ≡ fold g.H.Hasher.write l.fn.state (fed_terms (turn_terms l.pairs))
