use Rattle.std.proofs.Common.{rules}
use Rattle.std.proofs.KnownBytes.{Consumes-kept, Consumes-trans}
use Rattle.amqp_lines.proofs.Pieces.{no_more, ended_line, whole_line}
use Rattle.amqp_lines.proofs.lines.Lines.next_line.Goals as goal

pub returns-then-not-branch-clause-line : goal.returns-then-not-branch-clause-line
returns-then-not-branch-clause-line g c =
    ended_line _ _ _ _ c.loop.invariant.0 c.loop.invariant.1 (search rules) c.in_ok-refill.ensures.kept
    (c.in_ok-refill.ensures.ended (search rules))

pub returns-then-branch-clause-line : goal.returns-then-branch-clause-line
returns-then-branch-clause-line g c =
    let (piece, none, items, taken) = c.in_ok-take_piece.ensures.taken in
    rw items (whole_line _ _ _ c.loop.line.items piece c.loop.invariant.0 none
    (Consumes-kept _ _ _ _ c.loop.invariant.1 c.in_ok-refill.ensures.kept) (rw c.if-branch.true at taken))

pub loop-preserved : goal.loop-preserved
loop-preserved g c =
    let (piece, none, items, taken) = c.in_ok-take_piece.ensures.taken in
    rw items (
      no_more 10 c.loop.line.items piece c.loop.invariant.0 none,
      Consumes-trans _ _ _ c.loop.line.items piece (Consumes-kept _ _ _ _ c.loop.invariant.1 c.in_ok-refill.ensures.kept)
          (rw c.if-branch.false at taken),
    )
