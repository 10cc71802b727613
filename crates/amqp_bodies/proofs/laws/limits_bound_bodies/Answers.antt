use Rattle.amqp_batches.specs.laws.Bound.{bounded}
use Rattle.amqp_bodies.proofs.laws.limits_bound_bodies.Goals as goal

pub returns : goal.returns
returns g c = record { within = bounded g.B.FromBody.made.group g.B.FromBody.made.laws.bound }
