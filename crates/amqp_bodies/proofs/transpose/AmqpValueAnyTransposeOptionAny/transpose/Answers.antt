use Rattle.std.proofs.Common.{rules}
use Rattle.amqp_bodies.proofs.TransposeSteps.{there}
use Rattle.amqp_bodies.proofs.transpose.AmqpValueAnyTransposeOptionAny.transpose.Goals as goal

pub returns-in_ok-from_body-in-Some-Some-clause-value : goal.returns-in_ok-from_body-in-Some-Some-clause-value
returns-in_ok-from_body-in-Some-Some-clause-value g c = (
  record { 0 = c.in-Some-Some.value },
  there _ c.args.src c.in-Some-Some.field-0 c.in-Some-Some.is (search rules),
  c.in_ok-from_body-in-Some-Some.ensures.value,
)
