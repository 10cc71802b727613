-- How a message is written: the sections that are there, in the standard's order (Part 3, section 3.2).
use Rattle.std.proofs.Common.{Some}
use Rattle.amqp_codec.specs.Written.{Writing}
use Rattle.amqp_messages.specs.declared.message.Message.{Message}
use Rattle.amqp_messages.specs.Kinds.{Fields}
use Rattle.amqp_messages.specs.KindsWriting.{AllHave, Writings, row_of, are_values, row_proper}
use Rattle.amqp_messages.specs.MessageKinds.{seven, fields_of}

-- The groups as which a message is written.
abbrev pub groups_in : {B : Type 0} → Message B → Fields (seven B)
groups_in v = fields_of (Some v.body) v

abbrev pub message_writing : {B : Type 0} → Writings (seven B) → Writing (Message B)
message_writing {B} ws = record {
  canons = λ v. row_of (seven B) ws (groups_in v);
  is_value = λ v. AllHave (seven B) (are_values (seven B) ws) (groups_in v);
  proper = λ v. row_proper (seven B) ws (groups_in v);
}
