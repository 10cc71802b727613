use Rattle.std.proofs.Common.{arith, length, take, refl, sym, subst}
use Rattle.std.proofs.lemmas.List.{length-take-le}
use Rattle.amqp_blocks.specs.Blocks.{IsFrameOf, IsTile}
use Rattle.amqp_blocks.specs.declared.block.Subject.TheVariants.{Frame, NoFrame}
use Rattle.amqp_blocks.proofs.BlockLemmas.{block_begins, body_begins}
use Rattle.amqp_blocks.proofs.frames.Frames.whole_frame.Goals as goal

pub returns : goal.returns
returns c =
    let frame = c.args.frame.now in
    let input = c.args.input.now in
    let at = c.saturating_sub-body_at.result in
    let len = c.min-len.result in
    let n = length (take len input) in
    let h = body_begins c.requires.0 input frame.header frame.extended.now frame.body.now c.requires.1 len at
    (omega (arith, c.min-len.ensures)) (omega (arith, c.saturating_sub-body_at.ensures)) in
    let all = length-take-le len input h.2 in
    let body = c.in_ok-block.ensures (omega (arith, all, h.1)) in
    let x = body.0 in
    let is = c.as_frame.ensures.block NoFrame at x n body.3 in
    let payload = subst (λ k. IsTile x k c.as_frame.result.payload) (sym is.len) (rw c.as_frame.ensures.payload body.4) in
    let whole : IsFrameOf input frame.header.kind at c.as_frame.result.len = record {
      max = c.requires.0;
      header = frame.header;
      extended = frame.extended.now;
      body = frame.body.now;
      begins = c.requires.1;
      is_kind = refl;
      size = omega (arith, h.3, all, is.len);
      data_offset = h.4;
    } in
    block_begins (Frame frame.header.kind) at x n c.as_frame.result input is body.1 body.2 (omega (arith, all, h.2))
    (λ some. omega (arith, all, h.0, h.1))
    (whole, h.0, rw c.as_frame.ensures.extended c.some_span.ensures, payload)
