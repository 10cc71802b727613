use Rattle.std.proofs.Common.{arith, length}
use Rattle.amqp_blocks.specs.declared.block.Subject.TheVariants.{CutFrame}
use Rattle.amqp_blocks.proofs.frames.cut_block.Goals as goal

pub returns : goal.returns
returns c = λ l m. c.with_fault.ensures CutFrame l m (length c.args.input.now) (c.new.ensures l m) (omega (arith, c.at-fault.ensures))
