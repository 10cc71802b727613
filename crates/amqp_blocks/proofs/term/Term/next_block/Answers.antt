use Rattle.std.proofs.Common.{arith, length}
use Rattle.amqp_blocks.specs.declared.block.Subject.TheVariants.{Rest}
use Rattle.amqp_blocks.proofs.BlockLemmas.{block_begins}
use Rattle.amqp_blocks.proofs.term.Term.next_block.Goals as goal

pub returns-clause-block : goal.returns-clause-block
returns-clause-block c =
    let len = length c.args.input.now in
    block_begins Rest 0 0 len c.in_ok-block.block c.args.input.now
    (c.in_ok-block.ensures Rest 0 0 len (c.new.ensures 0 0) (omega (arith, c.at-fault.ensures))) (omega arith) (omega arith) (omega arith) (λ some. some) tt
