use Rattle.std.proofs.Common.{arith}
use Rattle.amqp_paths.proofs.Furthers.{bare_answered, shared_answered}
use Rattle.amqp_paths.proofs.steps.step_within.Goals as goal

pub returns-in-None-clause-step : goal.returns-in-None-clause-step
returns-in-None-clause-step c =
    bare_answered c.args.piece c.in-Element.descriptors c.in-Element.code c.in-Element.count c.in-Element.index c.args.room c.args.input.now
    c.in_data.result c.in-Element.is (omega (arith, c.in-None.ensures)) c.in_data.ensures.step

pub returns-in-Some-clause-step : goal.returns-in-Some-clause-step
returns-in-Some-clause-step c =
    shared_answered c.args.piece c.in-Element.descriptors c.in-Some.descriptors c.in-Element.code c.in-Element.count c.in-Element.index c.args.room
    c.args.input.now c.in-Element.is (omega (arith, c.in-Some.ensures)) c.requires.reaches
