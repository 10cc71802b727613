use Rattle.std.proofs.Common.{rules, arith, ◌≤◌, ◌+◌, length}
use Rattle.amqp_blocks.specs.declared.block.Subject.TheVariants.{NoFrame}
use Rattle.amqp_blocks.proofs.frames.Frames.amqp_block.Goals as goal
use Rattle.amqp_blocks.proofs.frames.Frames.amqp_block.Goals.{in-WithMessage+in_ok-block-in-WithMessage, in-Refused+in_ok-block-in-Refused}
use Rattle.amqp_blocks.proofs.frames.Frames.amqp_block.Goals.{in-WithMessage-2-2, in-WithMessage-2}

pub returns : goal.returns
returns c = λ le.
    let value = c.in_ok-block.ensures le in
    let body = c.unwrap_or_default-body.result.now in
    let long : length body + c.args.at ≤ length c.args.bytes.now = search rules in (
      value.0,
      value.1,
      elim c.match-branch-3.branch [
        | in-WithMessage+in_ok-block-in-WithMessage w ↦ rw w.block-is (w.in_ok-block-in-WithMessage.ensures NoFrame c.args.at value.1 value.2)
        | in-Refused+in_ok-block-in-Refused w ↦
            (let at : w.in-Refused.refusal.at ≤ length body = rw w.in-Refused.is at c.in_ok-read_performative.ensures in
            rw w.block-is (w.in_ok-block-in-Refused.ensures NoFrame c.args.at c.in_ok-block.end (omega (arith, at, long)) value.2))
        | in-WithMessage-2-2 w ↦ rw w.block-is value.2
        | in-WithMessage-2 w ↦ rw w.block-is value.2
      ],
    )
