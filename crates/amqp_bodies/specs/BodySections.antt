-- Bodies of any kind, by the type of their values (Part 3, sections 3.2.6 to 3.2.8).
use Rattle.std.proofs.Common.{◌≡◌, Bool, true, false, refl, ap, arith}
use Rattle.amqp_codec.specs.TermType.{TermType}
use Rattle.amqp_codec.specs.TermReading.{reading_of}
use Rattle.amqp_codec.specs.Wrappers.{Holds}
use Rattle.amqp_codec.specs.Written.{Writing}
use Rattle.amqp_codec.specs.Reading.{Reading}
use Rattle.amqp_sections.specs.SectionType.{section_of, section_writing}
use Rattle.amqp_sections.specs.Sections.{in_value, value_naming}
use Rattle.amqp_sections.specs.declared.data.Data.{Data as DataSection}
use Rattle.amqp_sections.specs.declared.amqp_sequence.AmqpSequence.{AmqpSequence}
use Rattle.amqp_sections.specs.declared.amqp_value.AmqpValue.{AmqpValue}
use Rattle.amqp_batches.specs.Bounds.{IsBoundByLimits}
use Rattle.amqp_batches.specs.laws.Bound.{term_bound}
use Rattle.amqp_batches.specs.Sections.{IsSection}
use Rattle.amqp_batches.specs.Batches.{batch_reading}
use Rattle.amqp_batches.specs.SectionGroups.{group_bound}
use Rattle.amqp_bodies.specs.declared.body.Body.{Body}
use Rattle.amqp_bodies.specs.declared.body.Body.TheVariants.{Empty}
use Rattle.amqp_bodies.specs.Bodies.{Empties, Made, held_in, itself_or_empty}
use Rattle.amqp_bodies.specs.BodyReading.{body_reading, body_bound}
use Rattle.amqp_bodies.specs.BodyRewriting.{null_code, IsEach}

abbrev pub is_empty : {T : Type 0} → Body T → Bool
is_empty Empty = true
is_empty _ = false

pub value_section : {V T : Type 0} (h : Holds V T) (w : Writing T) → IsSection 0x77 (section_writing h value_naming w)
value_section h w = record { is_section = null_code; content = _; canon_is = λ v. refl }

-- It is there.
abbrev pub IsSome : {T : Type 0} → Body T → Type 0
IsSome = IsEach (λ _. Unit {0}) (λ _. Unit {0}) (λ _. Unit {0}) ⊥

pub any_body_bound : {T : Type 0} (uv : TermType (AmqpValue T)) (ud : TermType DataSection) (us : TermType (AmqpSequence T))
    → IsBoundByLimits (body_reading (reading_of uv) (batch_reading 0x75 (reading_of ud)) (batch_reading 0x76 (reading_of us)))
any_body_bound uv ud us =
    body_bound (reading_of uv) (batch_reading 0x75 (reading_of ud)) (batch_reading 0x76 (reading_of us)) (term_bound uv)
    (group_bound 0x75 ud) (group_bound 0x76 us)

-- What takes the place of a body that isn't there.
abbrev pub empty_body : {T : Type 0} → Empties (Body T)
empty_body = record { is = λ v. v ≡ Empty; test = is_empty; tested = λ v h. ap is_empty h }

-- One of any kind is read as itself.
abbrev pub body_made : {T : Type 0} (r : Reading (Body T)) → IsBoundByLimits r → Made (Body T) (Body T)
body_made r bound = itself_or_empty r bound empty_body

-- A value is read as itself, and what takes the place of a body is told by the value.
abbrev pub value_made : {T : Type 0} → TermType T → Empties T → Made (AmqpValue T) (AmqpValue T)
value_made u e =
    itself_or_empty (reading_of (section_of in_value value_naming u)) (term_bound (section_of in_value value_naming u))
    (record { is = λ v. e.is v.0; test = λ v. e.test v.0; tested = λ v. e.tested v.0 })

-- The value of a section, or what takes the place of a body that isn't there.
abbrev pub plain_made : {T : Type 0} → TermType T → Empties T → Made (AmqpValue T) T
plain_made u e =
    held_in (reading_of (section_of in_value value_naming u)) (term_bound (section_of in_value value_naming u)) e u.same u.count
    (λ s. s.0) u.sameness.sym (λ s t h. h.1) (λ s. omega arith)
