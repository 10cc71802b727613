-- Bodies are read as they are spelled, and what may be absent is where it is there.
use Rattle.std.proofs.Common.{ℕ, List, ◌++◌, length, Option, Some, None, refl}
use Rattle.amqp_codec.specs.TermType.{TermType}
use Rattle.amqp_codec.specs.TermReading.{reading_of}
use Rattle.amqp_codec.specs.Reading.{Reading, looking, start, BeginsWith}
use Rattle.amqp_sections.specs.declared.data.Data.{Data as DataSection}
use Rattle.amqp_sections.specs.declared.amqp_sequence.AmqpSequence.{AmqpSequence}
use Rattle.amqp_sections.specs.declared.amqp_value.AmqpValue.{AmqpValue}
use Rattle.amqp_batches.specs.Batches.{batch_reading}
use Rattle.amqp_batches.specs.laws.Resuming.{start_unlimited, fresh_top}
use Rattle.amqp_batches.specs.Spellings.{Spells, Begins}
use Rattle.amqp_batches.specs.laws.ReadAs.{IsReadAs, term_is_read}
use Rattle.amqp_batches.specs.laws.SpelledGroups.{batch_is_read, section_is_read}
use Rattle.amqp_bodies.specs.declared.body.Body.{Body}
use Rattle.amqp_bodies.specs.declared.body.Body.TheVariants.{Value, Data, Sequence, Empty}
use Rattle.amqp_bodies.specs.BodyReading.{body_reading, body_bound}
use Rattle.amqp_bodies.specs.SomeReading.{some_reading, some_bound}
use Rattle.amqp_bodies.specs.SeenReading.{seen_reading, seen_bound, read_behind}
use Rattle.amqp_bodies.specs.SpelledBodies.{IsBody, IsThere}

-- Behind a look at what comes next.
pub seen_is_read : {V : Type 0} {r : Reading V} {spells : Spells V} → IsReadAs r spells → IsReadAs (seen_reading r) spells
seen_is_read {r = r} l = record {
  bound = seen_bound r l.bound;
  spelled = λ input v n h.
      (let k = h.read in
      let f = read_behind r (start input) k.seen (start input) v h.after k.alike refl k.read in
      l.spelled input v n (record { after = looking f.0 h.after; read = f.1; left = h.left }));
  read = λ b more v s.
      (let h = l.read b more v s in
      record { after = h.after; read = record { seen = start (b ++ more); alike = refl; read = h.read }; left = h.left });
}

module _ {V : Type 0} {r : Reading V} {spells : Spells V} (l : IsReadAs r spells) where
  there_spelled : (input : List ℕ) (v : Option V) (n : ℕ) → BeginsWith (some_reading r) input v n → Begins (IsThere spells) input v n
  there_spelled input None n h = absurd h.read
  there_spelled input (Some v) n h = l.spelled input v n (record { after = h.after; read = h.read; left = h.left })

  there_read : (b more : List ℕ) (v : Option V) → IsThere spells b v more → BeginsWith (some_reading r) (b ++ more) v (length b)
  there_read b more None s = absurd s
  there_read b more (Some v) s = let h = l.read b more v s in record { after = h.after; read = h.read; left = h.left }

  pub there_is_read : IsReadAs (some_reading r) (IsThere spells)
  there_is_read = record { bound = some_bound r l.bound; spelled = there_spelled; read = there_read }

module _ {T : Type 0} (uv : TermType (AmqpValue T)) (ud : TermType DataSection) (us : TermType (AmqpSequence T)) where
  abbrev body_type : Reading (Body T)
  body_type = body_reading (reading_of uv) (batch_reading 0x75 (reading_of ud)) (batch_reading 0x76 (reading_of us))

  body_spelled : (input : List ℕ) (v : Body T) (n : ℕ) → BeginsWith body_type input v n → Begins (IsBody uv ud us) input v n
  body_spelled input (Value v) n h =
      (section_is_read 0x77 (term_is_read uv)).spelled input v n (record { after = h.after; read = (h.read.1.0, h.read.1.1); left = h.left })
  body_spelled input (Data v) n h =
      (section_is_read 0x75 (batch_is_read 0x75 ud)).spelled input v n
      (record { after = h.after; read = (h.read.1.0, h.read.1.1); left = h.left })
  body_spelled input (Sequence v) n h =
      (section_is_read 0x76 (batch_is_read 0x76 us)).spelled input v n
      (record { after = h.after; read = (h.read.1.0, h.read.1.1); left = h.left })
  body_spelled input Empty n h = absurd h.read

  body_read : (b more : List ℕ) (v : Body T) → IsBody uv ud us b v more → BeginsWith body_type (b ++ more) v (length b)
  body_read b more (Value v) s =
      let h = (term_is_read uv).read b more v s.1 in
      record { after = h.after; read = (fresh_top (start (b ++ more)) (start_unlimited (b ++ more)).0, (s.0, h.read)); left = h.left }
  body_read b more (Data v) s =
      let h = (batch_is_read 0x75 ud).read b more v s.1 in
      record { after = h.after; read = (fresh_top (start (b ++ more)) (start_unlimited (b ++ more)).0, (s.0, h.read)); left = h.left }
  body_read b more (Sequence v) s =
      let h = (batch_is_read 0x76 us).read b more v s.1 in
      record { after = h.after; read = (fresh_top (start (b ++ more)) (start_unlimited (b ++ more)).0, (s.0, h.read)); left = h.left }
  body_read b more Empty s = absurd s

  body_is_read : IsReadAs body_type (IsBody uv ud us)
  body_is_read = record {
    bound = body_bound (reading_of uv) (batch_reading 0x75 (reading_of ud)) (batch_reading 0x76 (reading_of us)) (term_is_read uv).bound
        (section_is_read 0x75 (batch_is_read 0x75 ud)).bound (section_is_read 0x76 (batch_is_read 0x76 us)).bound;
    spelled = body_spelled;
    read = body_read;
  }

  pub any_body_is_read : IsReadAs (seen_reading body_type) (IsBody uv ud us)
  any_body_is_read = seen_is_read body_is_read
