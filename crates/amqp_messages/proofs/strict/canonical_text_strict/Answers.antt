use Rattle.amqp_codec.specs.Reading.{greatest}
use Rattle.amqp_read_write.proofs.Rewrites.{every_text}
use Rattle.amqp_annotations.specs.AnnotationsType.{annotations_agreement}
use Rattle.amqp_map_sections.specs.SimpleMaps.{simple_map_agreement}
use Rattle.amqp_bodies.specs.ReadsAs.{read_as}
use Rattle.amqp_messages.specs.declared.order.Order.TheVariants.{Any}
use Rattle.amqp_messages.specs.MessageAgain.{message_is_rewritten}
use Rattle.amqp_messages.proofs.StrictSteps.{strict_message, text_of_all, again_of_all, one_of_all, other_of_all, unchanged_of_all}
use Rattle.amqp_messages.proofs.strict.canonical_text_strict.Goals as goal

pub returns-in-Ok-clause-text : goal.returns-in-Ok-clause-text
returns-in-Ok-clause-text g c = text_of_all g.B.FromBody.made greatest c.in-Ok.ensures.text

pub returns-in-Ok-clause-read_again : goal.returns-in-Ok-clause-read_again
returns-in-Ok-clause-read_again g c = again_of_all g.B.FromBody.made greatest c.in-Ok.ensures.text c.in-Ok.ensures.read_again

pub returns-in-Ok-clause-one_text : goal.returns-in-Ok-clause-one_text
returns-in-Ok-clause-one_text g c = one_of_all g.B.FromBody.made greatest c.in-Ok.ensures.text c.in-Ok.ensures.one_text

pub returns-in-Ok-clause-no_other : goal.returns-in-Ok-clause-no_other
returns-in-Ok-clause-no_other g c = other_of_all g.B.FromBody.made greatest c.in-Ok.ensures.text c.in-Ok.ensures.no_other

pub returns-in-Ok-clause-unchanged : goal.returns-in-Ok-clause-unchanged
returns-in-Ok-clause-unchanged g c = unchanged_of_all g.B.FromBody.made greatest c.in-Ok.ensures.text c.in-Ok.ensures.unchanged

pub returns-in-Ok-clause-in_any_order : goal.returns-in-Ok-clause-in_any_order
returns-in-Ok-clause-in_any_order g c = strict_message g.B.FromBody.made greatest

pub returns-in-Ok-clause-leniently : goal.returns-in-Ok-clause-leniently
returns-in-Ok-clause-leniently g c =
    every_text (message_is_rewritten annotations_agreement simple_map_agreement g.met.B.CanonicalBody.is_text
    (read_as g.met.B.FromBody.group_is g.met.B.DeserializableBody.is_read) Any)

pub returns-in-Err-clause-in_any_order : goal.returns-in-Err-clause-in_any_order
returns-in-Err-clause-in_any_order g c = strict_message g.B.FromBody.made greatest

pub returns-in-Err-clause-leniently : goal.returns-in-Err-clause-leniently
returns-in-Err-clause-leniently g c =
    every_text (message_is_rewritten annotations_agreement simple_map_agreement g.met.B.CanonicalBody.is_text
    (read_as g.met.B.FromBody.group_is g.met.B.DeserializableBody.is_read) Any)
