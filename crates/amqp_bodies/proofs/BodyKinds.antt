-- How a body of each kind is read, by the type of its values.
use Rattle.amqp_codec.specs.Reading.{Reading}
use Rattle.amqp_codec.specs.TermReading.{reading_of}
use Rattle.amqp_codec.specs.TermType.{TermType}
use Rattle.amqp_codec.specs.VecType.{vec_of}
use Rattle.amqp_primitives.specs.Types.{binary_type}
use Rattle.amqp_sections.specs.SectionType.{section_of}
use Rattle.amqp_sections.specs.Sections.{data_naming, in_data, sequence_naming, in_sequence, value_naming, in_value}
use Rattle.amqp_sections.specs.declared.data.Data.{Data as DataSection}
use Rattle.amqp_sections.specs.declared.amqp_sequence.AmqpSequence.{AmqpSequence}
use Rattle.amqp_sections.specs.declared.amqp_value.AmqpValue.{AmqpValue}
use Rattle.amqp_batches.specs.declared.transparent_vec.TransparentVec.{TransparentVec}
use Rattle.amqp_batches.specs.Batches.{batch_reading}
use Rattle.amqp_bodies.specs.declared.body.Body.{Body}
use Rattle.amqp_bodies.specs.BodyReading.{body_reading}

abbrev pub values : {T : Type 0} → TermType T → Reading (AmqpValue T)
values u = reading_of (section_of in_value value_naming u)

abbrev pub datas : Reading (TransparentVec DataSection)
datas = batch_reading 0x75 (reading_of (section_of in_data data_naming binary_type))

abbrev pub sequences : {T : Type 0} → TermType T → Reading (TransparentVec (AmqpSequence T))
sequences u = batch_reading 0x76 (reading_of (section_of in_sequence sequence_naming (vec_of u)))

abbrev pub bodies : {T : Type 0} → TermType T → Reading (Body T)
bodies u = body_reading (values u) datas (sequences u)
