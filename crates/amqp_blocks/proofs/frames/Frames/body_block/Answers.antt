use Rattle.std.proofs.Common.{arith, length}
use Rattle.amqp_blocks.proofs.frames.Frames.body_block.Goals as goal

pub returns-in-Amqp : goal.returns-in-Amqp
returns-in-Amqp c = λ le. (le, omega arith, c.new.ensures c.args.body_at (length c.args.bytes.now))
