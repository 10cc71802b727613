use Rattle.std.proofs.Common.{length, unwrap_or}
use Rattle.amqp_blocks.specs.declared.block.Subject.TheVariants.{NoFrame}
use Rattle.amqp_blocks.proofs.BlockLemmas.{at_most_the_end}
use Rattle.amqp_blocks.proofs.frames.value_block.Goals as goal

pub returns : goal.returns
returns c = λ le.
    let len = length c.args.bytes.now in
    let end = c.in_ok-entries.field-0.end in
    let ends = at_most_the_end end c.args.at len le c.in_ok-entries.ensures.ends in
    rw c.unwrap_or.ensures (
      ends.0,
      ends.1,
      c.with_value-block.ensures NoFrame c.args.at (unwrap_or end len) len (c.new.ensures c.args.at (unwrap_or end len))
          (c.in_ok-entries.ensures.outline le),
    )
