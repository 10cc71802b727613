use Rattle.std.proofs.Common.{arith}
use Rattle.amqp_paths.proofs.Furthers.{its_mark_steps}
use Rattle.amqp_paths.proofs.steps.in_constructor.Goals as goal

pub returns-clause-step : goal.returns-clause-step
returns-clause-step c =
    its_mark_steps c.args.descriptors c.in_ok-code.code.now c.args.room c.args.input.now c.in_ok-code.after.now (omega arith)
    c.in_ok-code.ensures.cases.0 c.if-code-ne-DESCRIBED.false (omega arith) (c.requires.0 (omega arith))
