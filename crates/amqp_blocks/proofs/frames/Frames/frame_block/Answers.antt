use Rattle.std.proofs.Common.{length}
use Rattle.amqp_blocks.specs.declared.block.Subject.TheVariants.{NoFrame}
use Rattle.amqp_blocks.proofs.frames.Frames.frame_block.Goals as goal

pub returns : goal.returns
returns c = λ le.
    let len = length c.args.bytes.now in
    let end = c.in_ok-block.end in
    let value = c.in_ok-block.ensures le in (
      end,
      value.0,
      value.1,
      c.with_payload.ensures.block NoFrame c.args.body_at end len value.2,
      rw c.with_payload.ensures.payload c.some_span.ensures,
    )
