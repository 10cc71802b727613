use Rattle.amqp_annotations.specs.AnnotationsType.{annotations_agreement}
use Rattle.amqp_map_sections.specs.SimpleMaps.{simple_map_agreement}
use Rattle.amqp_bodies.specs.ReadsAs.{read_as}
use Rattle.amqp_messages.specs.declared.order.Order.TheVariants.{Any, Written}
use Rattle.amqp_messages.specs.Messages.{message_in}
use Rattle.amqp_messages.specs.MessageAgain.{without_sections, without_body_refused}
use Rattle.amqp_messages.proofs.laws.bodies_without_sections_are_absent.Goals as goal

pub returns-clause-any : goal.returns-clause-any
returns-clause-any g c =
    without_sections annotations_agreement simple_map_agreement g.met.B.CanonicalBody.is_text
    (read_as g.met.B.FromBody.group_is g.met.B.DeserializableBody.is_read) Any

pub returns-clause-strict : goal.returns-clause-strict
returns-clause-strict g c message body i w e takes =
    let h = without_sections annotations_agreement simple_map_agreement g.met.B.CanonicalBody.is_text
    (read_as g.met.B.FromBody.group_is g.met.B.DeserializableBody.is_read) Written message body i w e takes in
    record { after = h.after; read = h.read; left = h.left }

pub returns-clause-refused : goal.returns-clause-refused
returns-clause-refused g c =
    without_body_refused annotations_agreement simple_map_agreement g.met.B.CanonicalBody.is_text
    (read_as g.met.B.FromBody.group_is g.met.B.DeserializableBody.is_read) Any

pub returns-clause-strictly_refused : goal.returns-clause-strictly_refused
returns-clause-strictly_refused g c message i w e none =
    let h = without_body_refused annotations_agreement simple_map_agreement g.met.B.CanonicalBody.is_text
    (read_as g.met.B.FromBody.group_is g.met.B.DeserializableBody.is_read) Written message i w e none in
    record {
      left = h.left;
      fault = h.fault;
      none = λ v n k. h.none (message_in v) n (record { after = k.after; read = k.read; left = k.left });
      unspelled = h.unspelled;
    }
