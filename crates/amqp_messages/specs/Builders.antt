-- What is made by the builder of messages (Part 3, section 3.2).
use Rattle.std.specs.Prelude.{None}
use Rattle.amqp_messages.specs.declared.builder.Builder.{Builder}
use Rattle.amqp_messages.specs.declared.builder.EmptyBody.{EmptyBody}
use Rattle.amqp_messages.specs.declared.message.Message.{Message}

-- The message that a builder has made so far.
abbrev pub built : {T : Type 0} → Builder T → Message T
built b = record {
  header = b.header;
  delivery_annotations = b.delivery_annotations;
  message_annotations = b.message_annotations;
  properties = b.properties;
  application_properties = b.application_properties;
  body = b.body;
  footer = b.footer;
}

-- The message with this body.
abbrev pub with_body : {B C : Type 0} → C → Message B → Message C
with_body c m = record {
  header = m.header;
  delivery_annotations = m.delivery_annotations;
  message_annotations = m.message_annotations;
  properties = m.properties;
  application_properties = m.application_properties;
  body = c;
  footer = m.footer;
}

-- No section is there.
abbrev pub empty_builder : Builder EmptyBody
empty_builder = record {
  header = None;
  delivery_annotations = None;
  message_annotations = None;
  properties = None;
  application_properties = None;
  body = record {};
  footer = None;
}
