use Rattle.std.proofs.Common.{rules, refl}
use Rattle.amqp_bodies.proofs.TransposeSteps.{there}
use Rattle.amqp_bodies.proofs.transpose.AmqpValueAnyTransposeOption.transpose.Goals as goal

pub returns-in-Some-Some-clause-value : goal.returns-in-Some-Some-clause-value
returns-in-Some-Some-clause-value g c =
    (record { 0 = c.in-Some-Some.value }, there _ c.args.src c.in-Some-Some.field-0 c.in-Some-Some.is (search rules), refl)
