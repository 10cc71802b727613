use Rattle.amqp_annotations.specs.AnnotationsType.{annotations_agreement}
use Rattle.amqp_map_sections.specs.SimpleMaps.{simple_map_agreement}
use Rattle.amqp_bodies.specs.ReadsAs.{read_as}
use Rattle.amqp_messages.specs.declared.order.Order.TheVariants.{Any, Written}
use Rattle.amqp_messages.specs.MessageAgain.{message_lasts}
use Rattle.amqp_messages.proofs.laws.bodies_last.Goals as goal

pub returns-clause-any : goal.returns-clause-any
returns-clause-any g c =
    message_lasts annotations_agreement simple_map_agreement g.met.B.CanonicalBody.is_text
    (read_as g.met.B.FromBody.group_is g.met.B.DeserializableBody.is_read) Any

pub returns-clause-strict : goal.returns-clause-strict
returns-clause-strict g c input message n h =
    message_lasts annotations_agreement simple_map_agreement g.met.B.CanonicalBody.is_text
    (read_as g.met.B.FromBody.group_is g.met.B.DeserializableBody.is_read) Written input message n
    (record { after = h.after; read = h.read; left = h.left })
