-- Which bytes are a body of any kind (Part 3, sections 3.2.6 to 3.2.8).
use Rattle.std.specs.Prelude.{Option, Some, None}
use Rattle.amqp_codec.specs.TermType.{TermType}
use Rattle.amqp_sections.specs.declared.data.Data.{Data as DataSection}
use Rattle.amqp_sections.specs.declared.amqp_sequence.AmqpSequence.{AmqpSequence}
use Rattle.amqp_sections.specs.declared.amqp_value.AmqpValue.{AmqpValue}
use Rattle.amqp_bodies.specs.declared.body.Body.{Body}
use Rattle.amqp_bodies.specs.declared.body.Body.TheVariants.{Value, Data, Sequence, Empty}
use Rattle.amqp_batches.specs.Spellings.{Spells, IsTerm, IsSection, IsBatch}

-- One value, or as many sections with bytes or with lists as there are, and one at least. What is absent has no bytes that say so.
abbrev pub IsBody : {T : Type 0} → TermType (AmqpValue T) → TermType DataSection → TermType (AmqpSequence T) → Spells (Body T)
IsBody value data_ sequence b (Value v) more = IsSection 0x77 (IsTerm value) b v more
IsBody value data_ sequence b (Data v) more = IsSection 0x75 (IsBatch 0x75 (IsTerm data_)) b v more
IsBody value data_ sequence b (Sequence v) more = IsSection 0x76 (IsBatch 0x76 (IsTerm sequence)) b v more
IsBody value data_ sequence b Empty more = ⊥

-- A value that may be absent, and is there.
abbrev pub IsThere : {T : Type 0} → Spells T → Spells (Option T)
IsThere spells b None more = ⊥
IsThere spells b (Some v) more = spells b v more
