-- The faults of bodies are those of their bytes.
use Rattle.std.proofs.Common.{subst}
use Rattle.amqp_decoder.specs.State.{State}
use Rattle.amqp_decoder.specs.Places.{Located}
use Rattle.amqp_codec.specs.TermType.{TermType}
use Rattle.amqp_codec.specs.TermReading.{reading_of}
use Rattle.amqp_codec.specs.Reading.{Reading}
use Rattle.amqp_sections.specs.declared.data.Data.{Data as DataSection}
use Rattle.amqp_sections.specs.declared.amqp_sequence.AmqpSequence.{AmqpSequence}
use Rattle.amqp_sections.specs.declared.amqp_value.AmqpValue.{AmqpValue}
use Rattle.amqp_batches.specs.declared.transparent_vec.TransparentVec.{TransparentVec}
use Rattle.amqp_batches.specs.Batches.{batch_reading}
use Rattle.amqp_batches.specs.laws.Resuming.{IsUnlimited, fresh_top}
use Rattle.amqp_batches.specs.laws.State.{alike_rest}
use Rattle.amqp_batches.specs.SpellingFaults.{Faults}
use Rattle.amqp_batches.specs.laws.NoTerms.{also_free, no_section_named}
use Rattle.amqp_batches.specs.laws.NamedAs.{IsNamedAs, term_named, batch_named}
use Rattle.amqp_bodies.specs.BodyReading.{BodyFault, in_value as value_there, in_data as data_there, in_sequence as sequence_there}
use Rattle.amqp_bodies.specs.BodyReading.{other_section as another_there, not_section as none_there, body_reading}
use Rattle.amqp_bodies.specs.BodyReading as bodies
use Rattle.amqp_bodies.specs.SomeReading.{some_reading}
use Rattle.amqp_bodies.specs.SeenReading.{seen_reading}
use Rattle.amqp_bodies.specs.SpelledFaults.{IsBodyFault, in_value, in_data, in_sequence, no_body, no_section}

pub seen_named : {V : Type 0} {r : Reading V} {fault : Faults} → IsNamedAs r fault → IsNamedAs (seen_reading r) fault
seen_named {fault = fault} l = record {
  named = λ st e free h.
      subst (λ z. fault z e.error) (alike_rest st h.seen h.alike) (l.named h.seen e (also_free st h.seen free h.alike) h.fault);
}

pub there_named : {V : Type 0} {r : Reading V} {fault : Faults} → IsNamedAs r fault → IsNamedAs (some_reading r) fault
there_named l = record { named = l.named }

module _ {T : Type 0} (uv : TermType (AmqpValue T)) (ud : TermType DataSection) (us : TermType (AmqpSequence T)) where
  abbrev rd : Reading (TransparentVec DataSection)
  rd = batch_reading 0x75 (reading_of ud)

  abbrev rs : Reading (TransparentVec (AmqpSequence T))
  rs = batch_reading 0x76 (reading_of us)

  body_named : (st : State) (e : Located) → IsUnlimited st → BodyFault (reading_of uv) rd rs st e → IsBodyFault ud us st.rest e.error
  body_named st e free (bodies.not_top n) = (let t = fresh_top st free.0 in absurd (n.0.0 t.1 t.2 t.3))
  body_named st e free (value_there a f) = in_value a ((term_named uv).named st e free f)
  body_named st e free (data_there a f) = in_data a ((batch_named 0x75 ud).named st e free f)
  body_named st e free (sequence_there a f) = in_sequence a ((batch_named 0x76 us).named st e free f)
  body_named st e free (another_there a f g h i left) = no_body a f g h i
  body_named st e free (none_there a f) = no_section a (no_section_named st e free f)

  pub any_body_named : IsNamedAs (seen_reading (body_reading (reading_of uv) rd rs)) (IsBodyFault ud us)
  any_body_named = seen_named (record { named = body_named })
