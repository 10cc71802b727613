-- How a body of any kind is written.
use Rattle.std.proofs.Common.{List, [], ◌∷◌, arith}
use Rattle.amqp_model.specs.Term.{null, Term, leaf, described, code}
use Rattle.amqp_codec.specs.Written.{AreProper, Writing}
use Rattle.amqp_sections.specs.declared.data.Data.{Data as DataSection}
use Rattle.amqp_sections.specs.declared.amqp_sequence.AmqpSequence.{AmqpSequence}
use Rattle.amqp_sections.specs.declared.amqp_value.AmqpValue.{AmqpValue}
use Rattle.amqp_batches.specs.declared.transparent_vec.TransparentVec.{TransparentVec}
use Rattle.amqp_bodies.specs.declared.body.Body.{Body}
use Rattle.amqp_bodies.specs.declared.body.Body.TheVariants.{Value, Data, Sequence, Empty}

-- A body that isn't there is written as a null value (Part 3, section 3.2.8).
abbrev pub null_section : List Term
null_section = described (code 0x77) (leaf null) ∷ []

pub null_proper : AreProper null_section
null_proper = ((omega arith, tt), tt)

module _ {T : Type 0} (wv : Writing (AmqpValue T)) (wd : Writing (TransparentVec DataSection))
    (ws : Writing (TransparentVec (AmqpSequence T))) where
  abbrev pub body_canons : Body T → List Term
  body_canons (Value v) = wv.canons v
  body_canons (Data v) = wd.canons v
  body_canons (Sequence v) = ws.canons v
  body_canons Empty = null_section

  abbrev pub IsBodyValue : Body T → Type 0
  IsBodyValue (Value v) = wv.is_value v
  IsBodyValue (Data v) = wd.is_value v
  IsBodyValue (Sequence v) = ws.is_value v
  IsBodyValue Empty = Unit {0}

  pub body_proper : (v : Body T) → IsBodyValue v → AreProper (body_canons v)
  body_proper (Value v) i = wv.proper v i
  body_proper (Data v) i = wd.proper v i
  body_proper (Sequence v) i = ws.proper v i
  body_proper Empty i = null_proper

  abbrev pub body_writing : Writing (Body T)
  body_writing = record { canons = body_canons; is_value = IsBodyValue; proper = body_proper }
