use Rattle.std.proofs.Common.{rules, refl}
use Rattle.amqp_bodies.proofs.transpose.DataEmptyIsNothing.unless_empty.Goals as goal

pub returns : goal.returns
returns c = (c.args.self, (refl, λ e. search rules), refl)
