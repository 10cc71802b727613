use Rattle.amqp_messages.specs.declared.order.Order.TheVariants.{Any}
use Rattle.amqp_bodies.specs.ReadsAs.{read_as}
use Rattle.amqp_messages.proofs.Limits.{message_bounded, strict_bounded}
use Rattle.amqp_messages.proofs.laws.limits_bound_messages.Goals as goal

pub returns-clause-any : goal.returns-clause-any
returns-clause-any g c =
    message_bounded g.B.FromBody.made (read_as g.met.B.FromBody.group_is g.met.B.Body.DeserializableBody.is_read) Any

pub returns-clause-strict : goal.returns-clause-strict
returns-clause-strict g c =
    strict_bounded g.B.FromBody.made (read_as g.met.B.FromBody.group_is g.met.B.Body.DeserializableBody.is_read)
