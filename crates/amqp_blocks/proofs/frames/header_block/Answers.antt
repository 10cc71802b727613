use Rattle.std.proofs.Common.{arith, length}
use Rattle.amqp_blocks.specs.declared.block.Subject.TheVariants.{ProtocolHeader, CutFrame}
use Rattle.amqp_blocks.proofs.BlockLemmas.{block_begins, eight}
use Rattle.amqp_blocks.proofs.frames.header_block.Goals as goal

pub returns-in-Ok-Header-clause-block : goal.returns-in-Ok-Header-clause-block
returns-in-Ok-Header-clause-block c =
    block_begins (ProtocolHeader c.in-Ok-Header.header) 0 0 8 c.new.result c.args.input.now (c.new.ensures 0 0) (omega arith) (omega arith)
    (eight c.args.input.now c.in-Ok-Header.header (rw c.in-Ok-Header.field-0-is at c.in-Ok-Header.ensures.header)) (λ some. omega arith)
    (rw c.in-Ok-Header.field-0-is at c.in-Ok-Header.ensures.header, (c.new.ensures 0 0).len)

pub returns-in_ok-cut_block-in-Ok-Needs-clause-block : goal.returns-in_ok-cut_block-in-Ok-Needs-clause-block
returns-in_ok-cut_block-in-Ok-Needs-clause-block c =
    block_begins CutFrame 0 0 (length c.args.input.now) c.in_ok-cut_block-in-Ok-Needs.field-0 c.args.input.now
    (c.in_ok-cut_block-in-Ok-Needs.ensures 0 0) (omega arith) (omega arith) (omega arith) (λ some. some) tt
