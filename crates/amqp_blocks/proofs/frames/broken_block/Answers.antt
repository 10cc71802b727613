use Rattle.std.proofs.Common.{arith, ◌≤◌, ◌<◌, length}
use Rattle.amqp_blocks.specs.declared.block.Subject.TheVariants.{NoFrame}
use Rattle.amqp_blocks.proofs.BlockLemmas.{block_begins, in_a_header}
use Rattle.amqp_blocks.proofs.frames.broken_block.Goals as goal
use Rattle.amqp_blocks.proofs.frames.broken_block.Goals.{in-Some, in_default-2, in_default}

pub returns-clause-block : goal.returns-clause-block
returns-clause-block c =
    let few = in_a_header c.args.error in
    let place : c.in_ok-fault.fault.at ≤ c.match-announced_size.len = elim c.match-announced_size.branch [
      | in-Some w ↦ omega (arith, few, c.in_ok-fault.ensures.place, w.in-Some.ensures, w.len-is)
      | in_default-2 w ↦ omega (arith, c.requires, c.in_ok-fault.ensures.place, w.len-is)
      | in_default w ↦ omega (arith, c.requires, c.in_ok-fault.ensures.place, w.len-is)
    ] in
    let within : c.match-announced_size.len ≤ length c.args.input.now = elim c.match-announced_size.branch [
      | in-Some w ↦ omega (arith, w.if-size-input, w.len-is)
      | in_default-2 w ↦ omega (arith, w.len-is)
      | in_default w ↦ omega (arith, w.len-is)
    ] in
    let moves : 0 < length c.args.input.now → 0 < c.match-announced_size.len = λ some. elim c.match-announced_size.branch [
      | in-Some w ↦ omega (arith, w.in-Some.ensures, w.len-is)
      | in_default-2 w ↦ omega (arith, some, w.len-is)
      | in_default w ↦ omega (arith, some, w.len-is)
    ] in
    block_begins NoFrame 0 0 c.match-announced_size.len c.in_ok-block.block c.args.input.now
    (c.in_ok-block.ensures NoFrame 0 0 c.match-announced_size.len (c.new.ensures 0 0) place) (omega arith) (omega arith) within moves tt
