use Rattle.std.proofs.Common.{rules, refl}
use Rattle.amqp_bodies.proofs.TransposeSteps.{there}
use Rattle.amqp_bodies.proofs.transpose.AmqpSequenceTransposeOption.transpose.Goals as goal

pub returns-else-is_empty-clause-value : goal.returns-else-is_empty-clause-value
returns-else-is_empty-clause-value g c =
    (record { 0 = c.in-Some-2.items }, there _ c.args.src c.in-Some.sequence c.in-Some.is (search rules, λ e. search rules), refl)
