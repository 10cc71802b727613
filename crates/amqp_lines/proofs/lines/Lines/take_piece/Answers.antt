use Rattle.std.proofs.Common.{rules, take, ◌≤◌, ◌+◌, subst}
use Rattle.std.specs.Io.KnownBytes.{Consumes, prepend_known}
use Rattle.amqp_lines.specs.Lines.{with_feed}
use Rattle.amqp_lines.proofs.Pieces.{left, taken_piece, taken_within}
use Rattle.amqp_lines.proofs.lines.Lines.take_piece.Goals as goal

pub returns-clause-taken : goal.returns-clause-taken
returns-clause-taken g c =
    let b = c.self.inside in
    let f = c.until_feed-len in
    let piece = left b.start b.end b.buffer in
    let within : b.start + f.result.1 ≤ b.end =
    taken_within b.start b.end f.result.1 b.buffer c.self.invariant.0 f.ensures.taken_within in (
      take f.result.0 piece,
      f.ensures.none_before,
      search rules,
      subst (λ old. Consumes old (prepend_known (left (b.start + f.result.1) b.end b.buffer) (g.R.ByteSource.remaining b.source))
          (with_feed f.result.2 (take f.result.0 piece))) c.self.view_is
          (taken_piece b.start b.end f.result.0 f.result.1 b.buffer (g.R.ByteSource.remaining b.source) f.result.2 within f.ensures.taken),
    )
