-- Headers and properties that calls make.
use Rattle.std.specs.Prelude.{None, false}
use Rattle.amqp_message_headers.specs.declared.header.Header.{Header}
use Rattle.amqp_message_headers.specs.declared.properties.Properties.{Properties}

-- The header in which every field is left out.
abbrev pub default_header : Header
default_header = record {
  durable = false;
  priority = record { 0 = 4 };
  ttl = None;
  first_acquirer = false;
  delivery_count = 0;
}

-- The properties in which every field is left out.
abbrev pub no_properties : Properties
no_properties = record {
  message_id = None;
  user_id = None;
  to = None;
  subject = None;
  reply_to = None;
  correlation_id = None;
  content_type = None;
  content_encoding = None;
  absolute_expiry_time = None;
  creation_time = None;
  group_id = None;
  group_sequence = None;
  reply_to_group_id = None;
}
