use Rattle.std.proofs.Common.{length}
use Rattle.amqp_frames.proofs.PieceLemmas.{SoFar}
use Rattle.amqp_frames.proofs.pieces.fill.Given as goal

abbrev pub invariant-parts : goal.invariant-parts
invariant-parts l = record {
  so_far : SoFar l.fn.next l.fn.message l.max_frame_size l.pieces.items l.next l.rest;
}

abbrev pub decreases-parts : goal.decreases-parts
decreases-parts l = length l.rest
