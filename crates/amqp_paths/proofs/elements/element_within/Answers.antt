use Rattle.std.proofs.Common.{subst, arith}
use Rattle.std.proofs.lemmas.List.{length-drop}
use Rattle.amqp_lengths.specs.Fronts.{IsFront}
use Rattle.amqp_lengths.specs.Stands.{AnyData}
use Rattle.amqp_lengths.proofs.Fronts.{tail_all}
use Rattle.amqp_paths.proofs.Among.{row_next}
use Rattle.amqp_paths.proofs.elements.element_within.Goals as goal

pub loop-index-preserved : goal.loop-index-preserved
loop-index-preserved c =
    let f = subst (λ l. IsFront (AnyData c.args.shared.code) l c.in-Some.len) (tail_all c.loop-index.start c.args.data.now) c.in-Some.ensures.0 in
    record {
      within = omega (arith, f.within, c.loop-index.invariant.within, length-drop c.loop-index.start c.args.data.now);
      near = omega (arith, c.in-Some.ensures.1, c.loop-index.invariant.near);
      few = omega arith;
      row = row_next (AnyData c.args.shared.code) c.loop-index.index c.loop-index.start c.in-Some.len c.args.data.now c.loop-index.invariant.row f;
    }
