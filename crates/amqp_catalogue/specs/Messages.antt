-- Batches, bodies and messages of the list: how they are read, and the terms that they are written as (Part 3, section 3.2).
use Rattle.std.proofs.Common.{List, refl}
use Rattle.amqp_model.specs.Term.{Term, list}
use Rattle.amqp_codec.specs.TermType.{TermType}
use Rattle.amqp_codec.specs.Composite.{composite}
use Rattle.amqp_codec.specs.VecType.{vec_of}
use Rattle.amqp_codec.specs.ItemsWriting.{items_writing}
use Rattle.amqp_codec.specs.Reading.{Reading}
use Rattle.amqp_codec.specs.TermReading.{reading_of}
use Rattle.amqp_codec.specs.Written.{Writing}
use Rattle.amqp_codec.specs.Agreement.{via_writing, writing_of}
use Rattle.amqp_primitives.specs.Types.{binary_type}
use Rattle.amqp_values.specs.declared.value.Value.{Value}
use Rattle.amqp_values.specs.ValueType.{value_type}
use Rattle.amqp_values.specs.ValueWriting.{value_writing}
use Rattle.amqp_sections.specs.SectionType.{section_of, section_writing}
use Rattle.amqp_sections.specs.Sections.{data_naming, in_data, sequence_naming, in_sequence, value_naming, in_value}
use Rattle.amqp_sections.specs.declared.data.Data.{Data}
use Rattle.amqp_sections.specs.declared.amqp_sequence.AmqpSequence.{AmqpSequence}
use Rattle.amqp_sections.specs.declared.amqp_value.AmqpValue.{AmqpValue}
use Rattle.amqp_message_headers.specs.Tables.{header, properties}
use Rattle.amqp_batches.specs.declared.transparent_vec.TransparentVec.{TransparentVec}
use Rattle.amqp_batches.specs.Batches.{batch_reading, batch_writing}
use Rattle.amqp_batches.specs.SectionGroups.{run_reading, group_bound}
use Rattle.amqp_batches.specs.WalkReading.{walk_reading, reading_via}
use Rattle.amqp_bodies.specs.declared.body.Body.{Body}
use Rattle.amqp_bodies.specs.Bodies.{Made, itself, section_made}
use Rattle.amqp_bodies.specs.BodyReading.{body_reading}
use Rattle.amqp_bodies.specs.BodySections.{any_body_bound, body_made, value_made}
use Rattle.amqp_bodies.specs.BodyWriting.{body_writing}
use Rattle.amqp_bodies.specs.PlainBodies.{null_value}
use Rattle.amqp_bodies.specs.SeenReading.{seen_reading, seen_bound}
use Rattle.amqp_messages.specs.declared.message.Message.{Message}
use Rattle.amqp_messages.specs.declared.order.Order.TheVariants.{Any, Written}
use Rattle.amqp_messages.specs.declared.strict.Strict.{Strict}
use Rattle.amqp_messages.specs.MessageKinds.{delivery_annotations, message_annotations, application_properties, footer}
use Rattle.amqp_messages.specs.Messages.{message_of, message_in}
use Rattle.amqp_messages.specs.MessageWalk.{message_walk}
use Rattle.amqp_messages.specs.MessageWriting.{message_writing}

-- The sections of a body, by their types and by how they are written.
abbrev pub data_type : TermType Data
data_type = section_of in_data data_naming binary_type

abbrev pub sequence_type : TermType (AmqpSequence Value)
sequence_type = section_of in_sequence sequence_naming (vec_of value_type)

abbrev pub one_value_type : TermType (AmqpValue Value)
one_value_type = section_of in_value value_naming value_type

abbrev pub data_writing : Writing Data
data_writing = section_writing in_data data_naming (writing_of binary_type refl)

abbrev pub sequence_writing : Writing (AmqpSequence Value)
sequence_writing = section_writing in_sequence sequence_naming (via_writing (λ v. v.items) (items_writing list tt value_writing))

abbrev pub one_value_writing : Writing (AmqpValue Value)
one_value_writing = section_writing in_value value_naming value_writing

-- Batches of them.
abbrev pub data_batch : Reading (TransparentVec Data)
data_batch = batch_reading 0x75 (reading_of data_type)

abbrev pub sequence_batch : Reading (TransparentVec (AmqpSequence Value))
sequence_batch = batch_reading 0x76 (reading_of sequence_type)

abbrev pub data_batch_writing : Writing (TransparentVec Data)
data_batch_writing = batch_writing data_writing

abbrev pub sequence_batch_writing : Writing (TransparentVec (AmqpSequence Value))
sequence_batch_writing = batch_writing sequence_writing

-- Bodies of any kind.
abbrev pub any_body : Reading (Body Value)
any_body = seen_reading (body_reading (reading_of one_value_type) data_batch sequence_batch)

abbrev pub any_body_writing : Writing (Body Value)
any_body_writing = body_writing one_value_writing data_batch_writing sequence_batch_writing

-- How the bodies of messages are read: of any kind, one value, one section of data, and several.
abbrev pub of_any_body : Made (Body Value) (Body Value)
of_any_body = body_made any_body (seen_bound _ (any_body_bound one_value_type data_type sequence_type))

abbrev pub of_one_value : Made (AmqpValue Value) (AmqpValue Value)
of_one_value = value_made value_type null_value

abbrev pub of_data : Made Data Data
of_data = section_made data_type

abbrev pub of_data_batch : Made (TransparentVec Data) (TransparentVec Data)
of_data_batch = itself (seen_reading (run_reading 0x75 data_batch)) (seen_bound _ (group_bound 0x75 data_type))

-- Messages with such a body: in any order of their sections, and strictly in the standard's.
abbrev pub in_any_order : {S B : Type 0} → Made S B → Reading (Message B)
in_any_order made = walk_reading (message_walk Any (message_of made))

abbrev pub strictly : {S B : Type 0} → Made S B → Reading (Strict B)
strictly made = reading_via (walk_reading (message_walk Written (message_of made))) message_in

-- The terms that they are written as.
abbrev pub message_terms : {B : Type 0} → Writing B → Message B → List Term
message_terms {B} body =
    (message_writing {B = B} (
      writing_of (composite header) refl,
      (
        writing_of delivery_annotations refl,
        (
          writing_of message_annotations refl,
          (writing_of (composite properties) refl, (writing_of application_properties refl, (body, (writing_of footer refl, tt)))),
        ),
      ),
    )).canons

abbrev pub strict_terms : {B : Type 0} → Writing B → Strict B → List Term
strict_terms body strict = message_terms body (message_in strict)
