use Rattle.std.proofs.Common.{length}
use Rattle.amqp_outlines.proofs.OutlineLemmas.{longer_outline}
use Rattle.amqp_blocks.specs.declared.block.Subject.TheVariants.{NoFrame}
use Rattle.amqp_blocks.proofs.BlockLemmas.{at_most_the_end}
use Rattle.amqp_blocks.proofs.frames.sasl_block.Goals as goal

pub returns : goal.returns
returns c = λ le.
    let at = c.args.at in
    let len = length c.args.bytes.now in
    let ends = at_most_the_end c.in_ok-entries.field-0.end at len le c.in_ok-entries.ensures.ends in
    let outline = longer_outline at _ len _ (c.in_ok-entries.ensures.outline le) ends.1 in
    c.with_fault.ensures NoFrame at len len (c.with_value.ensures NoFrame at len len (c.new.ensures at len) outline)
    (c.in_ok-fault.ensures le)
