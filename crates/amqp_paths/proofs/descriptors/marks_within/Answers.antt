use Rattle.std.proofs.Common.{subst, arith}
use Rattle.std.proofs.lemmas.List.{length-drop}
use Rattle.amqp_lengths.specs.Fronts.{IsFront}
use Rattle.amqp_lengths.proofs.Fronts.{tail_all}
use Rattle.amqp_paths.specs.Steps.{IsMark}
use Rattle.amqp_paths.proofs.Named.{mark_more}
use Rattle.amqp_paths.proofs.descriptors.marks_within.Goals as goal

pub loop-descriptors-preserved : goal.loop-descriptors-preserved
loop-descriptors-preserved c =
    let f = subst (λ l. IsFront IsMark l c.in-Some.mark) (tail_all c.loop-descriptors.len c.args.input.now) c.in-Some.ensures.0 in
    record {
      within = omega (arith, f.within, c.loop-descriptors.invariant.within, length-drop c.loop-descriptors.len c.args.input.now);
      near = omega (arith, c.in-Some.ensures.1, c.loop-descriptors.invariant.near);
      few = omega arith;
      marks = mark_more c.loop-descriptors.descriptors c.loop-descriptors.len c.in-Some.mark c.args.input.now c.loop-descriptors.invariant.marks f;
    }
