use Rattle.std.proofs.Common.{arith}
use Rattle.amqp_paths.proofs.Named.{name_beyond}
use Rattle.amqp_paths.proofs.Furthers.{described_steps, mark_steps}
use Rattle.amqp_paths.proofs.steps.in_described.Goals as goal

pub returns-in-Some-clause-step : goal.returns-in-Some-clause-step
returns-in-Some-clause-step c = described_steps c.args.input.now c.args.room c.in-Some.len c.in-Some.ensures c.if-len-room.true

pub returns-in_default-clause-step : goal.returns-in_default-clause-step
returns-in_default-clause-step c =
    mark_steps c.args.input.now c.args.room
    (name_beyond c.args.input.now c.in-Some.len c.args.room c.in-Some.ensures (omega (arith, c.if-len-room.false)))

pub returns-in_default-2-clause-step : goal.returns-in_default-2-clause-step
returns-in_default-2-clause-step c = mark_steps c.args.input.now c.args.room (λ front after s names. absurd (c.in_default.ensures front after s names))
