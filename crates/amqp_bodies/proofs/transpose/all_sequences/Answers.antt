use Rattle.std.proofs.Common.{rules, ◌≡◌, [], ◌∷◌, ◌++◌}
use Rattle.std.specs.Vec.Iter.{into_iter_items}
use Rattle.amqp_batches.specs.Batches.{sections_in}
use Rattle.amqp_bodies.specs.StrippedBodies.{HasNone, AreAll}
use Rattle.amqp_bodies.proofs.TransposeSteps.{one_more, passed_one, is_among}
use Rattle.amqp_bodies.proofs.transpose.all_sequences.Goals as goal

pub loop-sequence-preserved : goal.loop-sequence-preserved
loop-sequence-preserved g c =
    let r : AreAll c.in-Some.sequence.0.items c.in-Some-2.items.items = search rules in
    let e : c.push.new.self.items ≡ c.loop-sequence.sequences.items ++ record { 0 = c.in-Some-2.items } ∷ [] = search rules in
    let z =
    one_more (λ f s. AreAll f.0.items s.0.items) c.loop-sequence.yielded c.loop-sequence.sequences.items c.in-Some.sequence
    (record { 0 = c.in-Some-2.items }) c.loop-sequence.invariant.1 r in (
      passed_one (sections_in c.args.batch) c.loop-sequence.yielded (into_iter_items c.loop-sequence.sequence-iterator)
          (into_iter_items c.next.new.self) c.in-Some.sequence c.loop-sequence.invariant.0 c.in-Some.ensures.steps.0,
      rw e z,
    )

pub returns-in-None-2-clause-sequences : goal.returns-in-None-2-clause-sequences
returns-in-None-2-clause-sequences g c =
    let n : HasNone c.in-Some.sequence.0.items = search rules in
    let k =
    is_among (sections_in c.args.batch) c.loop-sequence.yielded (into_iter_items c.loop-sequence.sequence-iterator)
    (into_iter_items c.next.new.self) c.in-Some.sequence c.loop-sequence.invariant.0 c.in-Some.ensures.steps.0 in
    (k.0, c.in-Some.sequence, k.1, k.2, n)
