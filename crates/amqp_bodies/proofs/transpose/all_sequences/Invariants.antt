use Rattle.std.proofs.Common.{◌≡◌, ◌++◌}
use Rattle.std.specs.List.{AllZip}
use Rattle.std.specs.Vec.Iter.{into_iter_items}
use Rattle.amqp_batches.specs.Batches.{sections_in}
use Rattle.amqp_bodies.specs.StrippedBodies.{AreAll}
use Rattle.amqp_bodies.proofs.transpose.all_sequences.Given as goal

abbrev pub invariant-loop-sequence : goal.invariant-loop-sequence
invariant-loop-sequence g l =
    (sections_in l.fn.batch ≡ l.yielded ++ into_iter_items l.sequence-iterator)
    × AllZip (λ f s. AreAll f.0.items s.0.items) l.yielded l.sequences.items
