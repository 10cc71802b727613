use Rattle.std.proofs.Common.{length}
use Rattle.amqp_blocks.proofs.frames.with_sections.Goals as goal

pub returns : goal.returns
returns c = λ s l le is.
    let all = length c.args.bytes.now in
    c.with_fault.ensures s l c.args.from all (c.with_message.ensures s l c.args.from all is (c.in_ok-sections.ensures le)) (c.in_ok-fault.ensures le)
