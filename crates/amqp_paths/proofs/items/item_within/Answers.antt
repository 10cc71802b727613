use Rattle.std.proofs.Common.{subst, arith}
use Rattle.std.proofs.lemmas.List.{length-drop}
use Rattle.amqp_lengths.specs.Fronts.{IsFront}
use Rattle.amqp_lengths.specs.Lengths.{IsTerm}
use Rattle.amqp_lengths.proofs.Fronts.{tail_all}
use Rattle.amqp_paths.proofs.Among.{row_next}
use Rattle.amqp_paths.proofs.items.item_within.Goals as goal

pub loop-index-preserved : goal.loop-index-preserved
loop-index-preserved c =
    let f = subst (λ l. IsFront (IsTerm 128) l c.in-Some.len) (tail_all c.loop-index.start c.args.content.now) c.in-Some.ensures.0 in
    record {
      within = omega (arith, f.within, c.loop-index.invariant.within, length-drop c.loop-index.start c.args.content.now);
      near = omega (arith, c.in-Some.ensures.1, c.loop-index.invariant.near);
      few = omega arith;
      row = row_next (IsTerm 128) c.loop-index.index c.loop-index.start c.in-Some.len c.args.content.now c.loop-index.invariant.row f;
    }
