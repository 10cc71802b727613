-- A body of any kind is told by the section that comes next.
use Rattle.std.proofs.Common.{◌≡◌, ℕ, true, refl, arith}
use Rattle.amqp_wire.specs.declared.error.Error.{Error}
use Rattle.amqp_wire.specs.declared.error.Error.TheVariants.{WrongDescriptor}
use Rattle.amqp_lookahead.specs.Sections.{IsSectionAhead}
use Rattle.amqp_lookahead.proofs.SectionsAhead.{one_ahead}
use Rattle.amqp_decoder.specs.State.{State}
use Rattle.amqp_decoder.specs.Steps.{RefusesBy}
use Rattle.amqp_decoder.specs.Places.{Located, RefusesAt, StandsHere}
use Rattle.amqp_codec.specs.Reading.{Reading}
use Rattle.amqp_codec.specs.laws.Refusal.{NoneStands, refused_first}
use Rattle.amqp_sections.specs.declared.data.Data.{Data as DataSection}
use Rattle.amqp_sections.specs.declared.amqp_sequence.AmqpSequence.{AmqpSequence}
use Rattle.amqp_sections.specs.declared.amqp_value.AmqpValue.{AmqpValue}
use Rattle.amqp_batches.specs.declared.transparent_vec.TransparentVec.{TransparentVec}
use Rattle.amqp_batches.specs.Walk.{IsAtTop, IsNext}
use Rattle.amqp_batches.specs.SectionGroups as run
use Rattle.amqp_batches.specs.SectionGroups.{RunFault, run_reading}
use Rattle.amqp_bodies.specs.declared.body.Body.{Body}
use Rattle.amqp_bodies.specs.declared.body.Body.TheVariants.{Value, Data, Sequence, Empty}
use Rattle.amqp_bodies.specs.BodyReading.{BodyReads, BodyFault, not_top, in_value, in_data, in_sequence, other_section, body_reading}
use Rattle.amqp_bodies.specs.SeenReading.{SeenReads, SeenFault}
use Rattle.amqp_bodies.proofs.PeekSteps.{still_next, read_here, refused_here, kept_here}

module _ {T : Type 0} (rv : Reading (AmqpValue T)) (rd : Reading (TransparentVec DataSection))
    (rs : Reading (TransparentVec (AmqpSequence T))) where
  abbrev Reads : State → Body T → State → Type 0
  Reads = BodyReads rv rd rs

  pub body_top : (st : State) (v : Body T) (b : State) → Reads st v b → IsAtTop st
  body_top st (Value v) b h = h.0
  body_top st (Data v) b h = h.0
  body_top st (Sequence v) b h = h.0
  body_top st Empty b h = absurd h

  differ : (st : State) (c d : ℕ) → IsSectionAhead st.rest c → IsSectionAhead st.rest d → (c ≡ d → ⊥) → ⊥
  differ st c d h k n = n (one_ahead st.rest c d h k)

  pub only_data : (st : State) → IsSectionAhead st.rest 0x75 → NoneStands rd.reads st → NoneStands Reads st
  only_data st a none (Value v) b h = differ st 0x75 0x77 a h.1.0 (λ e. omega (arith, e))
  only_data st a none (Data v) b h = none v b h.1.1
  only_data st a none (Sequence v) b h = differ st 0x75 0x76 a h.1.0 (λ e. omega (arith, e))
  only_data st a none Empty b h = h

  pub only_sequence : (st : State) → IsSectionAhead st.rest 0x76 → NoneStands rs.reads st → NoneStands Reads st
  only_sequence st a none (Value v) b h = differ st 0x76 0x77 a h.1.0 (λ e. omega (arith, e))
  only_sequence st a none (Data v) b h = differ st 0x76 0x75 a h.1.0 (λ e. omega (arith, e))
  only_sequence st a none (Sequence v) b h = none v b h.1.1
  only_sequence st a none Empty b h = h

  pub only_value : (st : State) → IsSectionAhead st.rest 0x77 → NoneStands rv.reads st → NoneStands Reads st
  only_value st a none (Value v) b h = none v b h.1.1
  only_value st a none (Data v) b h = differ st 0x77 0x75 a h.1.0 (λ e. omega (arith, e))
  only_value st a none (Sequence v) b h = differ st 0x77 0x76 a h.1.0 (λ e. omega (arith, e))
  only_value st a none Empty b h = h

  -- no section of a body comes next
  pub no_body : (st : State) → (IsSectionAhead st.rest 0x75 → ⊥) → (IsSectionAhead st.rest 0x76 → ⊥) → (IsSectionAhead st.rest 0x77 → ⊥)
      → NoneStands Reads st
  no_body st f g k (Value v) b h = k h.1.0
  no_body st f g k (Data v) b h = f h.1.0
  no_body st f g k (Sequence v) b h = g h.1.0
  no_body st f g k Empty b h = h

  abbrev r : Reading (Body T)
  r = body_reading rv rd rs

  -- by the code of the section that comes next: a value
  pub value_read : (st : State) (v : AmqpValue T) (b : State) → IsNext 0x77 st → rv.reads st v b → SeenReads r st (Value v) b
  value_read st v b n h = read_here r st (Value v) b (n.0, (n.1, h))

  pub value_refused : (st : State) (e : Error) (new : State) → IsNext 0x77 st
      → RefusesAt rv.takes_memory rv.reads rv.fault st e new → RefusesAt true (SeenReads r) (SeenFault r) st e new
  value_refused st e new n q =
      refused_here r rv.reads rv.fault st e new (λ _. refl) (λ x f. in_value n.1 f) (only_value st n.1) q

  -- sections of one kind: a body is made of what they are read as, and has their faults
  module _ {A : Type 0} (c : ℕ) (ra : Reading (TransparentVec A)) (make : TransparentVec A → Body T)
      (as_read : (here : State) (v : TransparentVec A) (b : State) → IsAtTop here → IsSectionAhead here.rest c → ra.reads here v b
      → Reads here (make v) b)
      (as_fault : (here : State) (x : Located) → IsSectionAhead here.rest c → ra.fault here x → BodyFault rv rd rs here x)
      (only : (here : State) → IsSectionAhead here.rest c → NoneStands ra.reads here → NoneStands Reads here) where
    pub run_read : (st : State) (v : TransparentVec A) (b : State) → IsNext c st → SeenReads (run_reading c ra) st v b
        → SeenReads r st (make v) b
    run_read st v b n h =
        let k = still_next st h.seen c h.alike n in
        record { seen = h.seen; alike = h.alike; read = as_read h.seen v b k.0 k.1 h.read.1 }

    run_fault : (here : State) (x : Located) → IsNext c here → RunFault c ra here x → BodyFault rv rd rs here x
    run_fault here x k (run.not_top t) = not_top t
    run_fault here x k (run.in_run a f) = as_fault here x a f
    run_fault here x k (run.other_section none i p) = absurd (none k.1)

    pub run_refused : (st : State) (e : Error) (new : State) → IsNext c st
        → RefusesAt ra.takes_memory (SeenReads (run_reading c ra)) (SeenFault (run_reading c ra)) st e new
        → RefusesAt true (SeenReads r) (SeenFault r) st e new
    run_refused st e new n q =
        refused_first (SeenReads (run_reading c ra)) (SeenFault (run_reading c ra)) (SeenReads r) (SeenFault r) st e new (λ _. refl)
        (λ x f. record { seen = f.seen; alike = f.alike; fault = run_fault f.seen x (still_next st f.seen c f.alike n) f.fault })
        (λ none v b k.
        (let a = (still_next st k.seen c k.alike n).1 in
        only k.seen a (λ w d h. none w d (record { seen = k.seen; alike = k.alike; read = (a, h) })) v b k.read)) q

  pub data_read : (st : State) (v : TransparentVec DataSection) (b : State) → IsNext 0x75 st → SeenReads (run_reading 0x75 rd) st v b
      → SeenReads r st (Data v) b
  data_read = run_read 0x75 rd Data (λ here v b t a h. (t, (a, h))) (λ here x a f. in_data a f) only_data

  pub data_refused : (st : State) (e : Error) (new : State) → IsNext 0x75 st
      → RefusesAt rd.takes_memory (SeenReads (run_reading 0x75 rd)) (SeenFault (run_reading 0x75 rd)) st e new
      → RefusesAt true (SeenReads r) (SeenFault r) st e new
  data_refused = run_refused 0x75 rd Data (λ here v b t a h. (t, (a, h))) (λ here x a f. in_data a f) only_data

  pub sequence_read : (st : State) (v : TransparentVec (AmqpSequence T)) (b : State) → IsNext 0x76 st
      → SeenReads (run_reading 0x76 rs) st v b → SeenReads r st (Sequence v) b
  sequence_read = run_read 0x76 rs Sequence (λ here v b t a h. (t, (a, h))) (λ here x a f. in_sequence a f) only_sequence

  pub sequence_refused : (st : State) (e : Error) (new : State) → IsNext 0x76 st
      → RefusesAt rs.takes_memory (SeenReads (run_reading 0x76 rs)) (SeenFault (run_reading 0x76 rs)) st e new
      → RefusesAt true (SeenReads r) (SeenFault r) st e new
  sequence_refused = run_refused 0x76 rs Sequence (λ here v b t a h. (t, (a, h))) (λ here x a f. in_sequence a f) only_sequence

  -- a section of another kind
  pub other_refused : (st : State) (c : ℕ) (e : Error) (new : State) → IsNext c st → (c ≡ 0x75 → ⊥) → (c ≡ 0x76 → ⊥) → (c ≡ 0x77 → ⊥)
      → RefusesBy WrongDescriptor st e new → StandsHere st new → RefusesAt true (SeenReads r) (SeenFault r) st e new
  other_refused st c e new n d s v refused at =
      kept_here r st WrongDescriptor e new n.0 (other_section n.1 d s v refl refl)
      (no_body st (λ h. d (one_ahead st.rest c 0x75 n.1 h)) (λ h. s (one_ahead st.rest c 0x76 n.1 h)) (λ h. v (one_ahead st.rest c 0x77 n.1 h)))
      refused at
