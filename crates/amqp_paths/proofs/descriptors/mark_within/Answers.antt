use Rattle.std.proofs.Common.{arith}
use Rattle.amqp_paths.proofs.Named.{mark_there, mark_beyond}
use Rattle.amqp_paths.proofs.descriptors.mark_within.Goals as goal

pub returns-then-len-room : goal.returns-then-len-room
returns-then-len-room c = (
  mark_there c.args.input.now c.in_ok-code.after.now c.in_ok-code.code.now c.in_ok-len.field-0 c.in_ok-code.ensures.cases.0
      c.if-code-ne-DESCRIBED.false c.in_ok-len.ensures,
  c.if-len-room.true,
)

pub returns-else-len-room : goal.returns-else-len-room
returns-else-len-room c =
    mark_beyond c.args.input.now c.in_ok-code.after.now c.in_ok-code.code.now c.in_ok-len.field-0 c.args.room c.in_ok-code.ensures.cases.0
    c.if-code-ne-DESCRIBED.false c.in_ok-len.ensures (omega (arith, c.if-len-room.false))
