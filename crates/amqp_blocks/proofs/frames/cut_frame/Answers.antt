use Rattle.std.proofs.Common.{arith, ◌≤◌, length, unwrap_or}
use Rattle.amqp_blocks.specs.declared.block.Subject.TheVariants.{CutFrame}
use Rattle.amqp_blocks.proofs.BlockLemmas.{block_begins, at_most_the_end}
use Rattle.amqp_blocks.proofs.frames.cut_frame.Goals as goal

pub returns-in_default : goal.returns-in_default
returns-in_default c =
    block_begins CutFrame 0 0 (length c.args.input.now) c.in_ok-block.block c.args.input.now (c.in_ok-block.ensures 0 0) (omega arith)
    (omega arith) (omega arith) (λ some. some) tt

pub returns : goal.returns
returns c =
    let len = length c.args.input.now in
    let at = c.min-at.result in
    let le : at ≤ len = omega (arith, c.min-at.ensures) in
    let end = unwrap_or c.in_ok-entries.field-0.end len in
    let ends = at_most_the_end c.in_ok-entries.field-0.end at len le c.in_ok-entries.ensures.ends in
    block_begins CutFrame at end len c.with_value.result c.args.input.now
    (c.with_value.ensures CutFrame at end len (c.in_ok-block.ensures at end) (c.in_ok-entries.ensures.outline le)) ends.0 ends.1 (omega arith) (λ some. some) tt
