-- How a body of any kind is read: as one group of sections (Part 3, section 3.2).
use Rattle.std.proofs.Common.{◌≡◌, ℕ, ◌+◌, ◌≤◌, Bool, true, false, length, Option, Some, None, refl, subst, arith}
use Rattle.amqp_model.specs.FieldRules.{SameOption}
use Rattle.amqp_model.specs.laws.Option.{option_sym, option_trans}
use Rattle.amqp_wire.specs.declared.error.Error.{Error}
use Rattle.amqp_wire.specs.declared.error.Error.TheVariants.{WrongDescriptor, InvalidValue}
use Rattle.amqp_lookahead.specs.Sections.{IsSectionAhead}
use Rattle.amqp_lookahead.proofs.SectionsAhead.{one_ahead}
use Rattle.amqp_decoder.specs.State.{Source, State}
use Rattle.amqp_decoder.specs.Steps.{IsOutside}
use Rattle.amqp_decoder.specs.Sections.{NotTop}
use Rattle.amqp_decoder.specs.OtherSource.{elsewhere}
use Rattle.amqp_decoder.specs.Places.{Located, Here}
use Rattle.amqp_codec.specs.Reading.{Reading, Taken, Stays, looking, AreAlike}
use Rattle.amqp_sections.specs.declared.data.Data.{Data as DataSection}
use Rattle.amqp_sections.specs.declared.amqp_sequence.AmqpSequence.{AmqpSequence}
use Rattle.amqp_sections.specs.declared.amqp_value.AmqpValue.{AmqpValue}
use Rattle.amqp_batches.specs.declared.transparent_vec.TransparentVec.{TransparentVec}
use Rattle.amqp_batches.specs.laws.State.{any_taken}
use Rattle.amqp_batches.specs.Bounds.{IsBoundByLimits}
use Rattle.amqp_batches.specs.laws.Bound.{takes_so}
use Rattle.amqp_batches.specs.Walk.{IsAtTop}
use Rattle.amqp_batches.specs.NoSections.{NoSection, no_section_elsewhere, no_section_not_outside, no_section_within}
use Rattle.amqp_batches.specs.laws.Walk.{no_term}
use Rattle.amqp_batches.specs.SectionGroups.{RunReads, run_reading}
use Rattle.amqp_bodies.specs.declared.body.Body.{Body}
use Rattle.amqp_bodies.specs.declared.body.Body.TheVariants.{Value, Data, Sequence, Empty}

outside_other : (e error : Error) → (IsOutside error → ⊥) → IsOutside e → e ≡ error → ⊥
outside_other e error plain o i = plain (subst IsOutside i o)

-- What a body of each kind holds.
abbrev pub value_in : {T : Type 0} → Body T → Option (AmqpValue T)
value_in (Value v) = Some v
value_in _ = None

abbrev pub data_in : {T : Type 0} → Body T → Option (TransparentVec DataSection)
data_in (Data v) = Some v
data_in _ = None

abbrev pub sequence_in : {T : Type 0} → Body T → Option (TransparentVec (AmqpSequence T))
sequence_in (Sequence v) = Some v
sequence_in _ = None

-- The code of its sections.
abbrev code_of : {T : Type 0} → Body T → ℕ
code_of (Value v) = 0x77
code_of (Data v) = 0x75
code_of (Sequence v) = 0x76
code_of Empty = 0

module _ {T : Type 0} (rv : Reading (AmqpValue T)) (rd : Reading (TransparentVec DataSection))
    (rs : Reading (TransparentVec (AmqpSequence T))) where
  -- At the top level a section of the body's kind comes next, and the group was read.
  abbrev pub BodyReads : State → Body T → State → Type 0
  BodyReads st (Value v) b = IsAtTop st × (IsSectionAhead st.rest 0x77 × rv.reads st v b)
  BodyReads st (Data v) b = IsAtTop st × (IsSectionAhead st.rest 0x75 × rd.reads st v b)
  BodyReads st (Sequence v) b = IsAtTop st × (IsSectionAhead st.rest 0x76 × rs.reads st v b)
  BodyReads st Empty b = ⊥

  -- Why none is: a container is open; or the group whose section comes next has the fault; or that section is none of a body; or no
  -- section comes next.
  pub data BodyFault (st : State) (e : Located) : Type 0 where
    not_top : Here NotTop st e → BodyFault st e
    in_value : IsSectionAhead st.rest 0x77 → rv.fault st e → BodyFault st e
    in_data : IsSectionAhead st.rest 0x75 → rd.fault st e → BodyFault st e
    in_sequence : IsSectionAhead st.rest 0x76 → rs.fault st e → BodyFault st e
    other_section : {c : ℕ} → IsSectionAhead st.rest c → (c ≡ 0x75 → ⊥) → (c ≡ 0x76 → ⊥) → (c ≡ 0x77 → ⊥) → e.error ≡ WrongDescriptor
        → e.left ≡ length st.rest → BodyFault st e
    not_section : ((c : ℕ) → IsSectionAhead st.rest c → ⊥) → NoSection st e → BodyFault st e

  -- They hold the same of the same kind.
  abbrev pub SameBody : Body T → Body T → Type 0
  SameBody v w =
      SameOption rv.same (value_in v) (value_in w) × SameOption rd.same (data_in v) (data_in w)
      × SameOption rs.same (sequence_in v) (sequence_in w)

  abbrev pub count_body : Body T → ℕ
  count_body (Value v) = rv.count v
  count_body (Data v) = rd.count v
  count_body (Sequence v) = rs.count v
  count_body Empty = 0

  body_ahead : (st : State) (v : Body T) (b : State) → BodyReads st v b → IsSectionAhead st.rest (code_of v)
  body_ahead st (Value v) b h = h.1.0
  body_ahead st (Data v) b h = h.1.0
  body_ahead st (Sequence v) b h = h.1.0
  body_ahead st Empty b h = absurd h

  pub same_sym : (v w : Body T) → SameBody v w → SameBody w v
  same_sym v w h = (
    option_sym rv.same rv.same_sym (value_in v) (value_in w) h.0,
    option_sym rd.same rd.same_sym (data_in v) (data_in w) h.1,
    option_sym rs.same rs.same_sym (sequence_in v) (sequence_in w) h.2,
  )

  pub same_trans : (v w x : Body T) → SameBody v w → SameBody w x → SameBody v x
  same_trans v w x h k = (
    option_trans rv.same rv.same_trans (value_in v) (value_in w) (value_in x) h.0 k.0,
    option_trans rd.same rd.same_trans (data_in v) (data_in w) (data_in x) h.1 k.1,
    option_trans rs.same rs.same_trans (sequence_in v) (sequence_in w) (sequence_in x) h.2 k.2,
  )

  pub body_one : (st : State) (v w : Body T) (a b : State) → BodyReads st v a → BodyReads st w b → SameBody v w × AreAlike a b
  body_one st v w a b h k = by_kind v w h k (one_ahead st.rest (code_of v) (code_of w) (body_ahead st v a h) (body_ahead st w b k))
    where
      by_kind : (v w : Body T) → BodyReads st v a → BodyReads st w b → code_of v ≡ code_of w → SameBody v w × AreAlike a b
      by_kind (Value v) (Value w) h k c = let o = rv.one st v w a b h.1.1 k.1.1 in ((o.0, tt, tt), o.1)
      by_kind (Data v) (Data w) h k c = let o = rd.one st v w a b h.1.1 k.1.1 in ((tt, o.0, tt), o.1)
      by_kind (Sequence v) (Sequence w) h k c = let o = rs.one st v w a b h.1.1 k.1.1 in ((tt, tt, o.0), o.1)
      by_kind Empty w h k c = absurd h
      by_kind v Empty h k c = absurd k
      by_kind (Value v) (Data w) h k c = absurd (omega (arith, c))
      by_kind (Value v) (Sequence w) h k c = absurd (omega (arith, c))
      by_kind (Data v) (Value w) h k c = absurd (omega (arith, c))
      by_kind (Data v) (Sequence w) h k c = absurd (omega (arith, c))
      by_kind (Sequence v) (Value w) h k c = absurd (omega (arith, c))
      by_kind (Sequence v) (Data w) h k c = absurd (omega (arith, c))

  pub body_going : (st : State) (v : Body T) (b : State) → BodyReads st v b → st.error ≡ None
  body_going st (Value v) b h = rv.going st v b h.1.1
  body_going st (Data v) b h = rd.going st v b h.1.1
  body_going st (Sequence v) b h = rs.going st v b h.1.1
  body_going st Empty b h = absurd h

  pub body_counted : (st : State) (v : Body T) (b : State) → st.top.shared ≡ None → BodyReads st v b
      → count_body v + length b.rest ≤ length st.rest
  body_counted st (Value v) b e h = rv.counted st v b e h.1.1
  body_counted st (Data v) b e h = rd.counted st v b e h.1.1
  body_counted st (Sequence v) b e h = rs.counted st v b e h.1.1
  body_counted st Empty b e h = absurd h

  pub body_taken : (st : State) (v : Body T) (b : State) → BodyReads st v b → Taken true st b
  body_taken st (Value v) b h = any_taken (rv.taken st v b h.1.1)
  body_taken st (Data v) b h = any_taken (rd.taken st v b h.1.1)
  body_taken st (Sequence v) b h = any_taken (rs.taken st v b h.1.1)
  body_taken st Empty b h = absurd h

  pub body_stays : (st : State) (v : Body T) (b : State) → BodyReads st v b → Stays st b
  body_stays st (Value v) b h = rv.stays st v b h.1.1
  body_stays st (Data v) b h = rd.stays st v b h.1.1
  body_stays st (Sequence v) b h = rs.stays st v b h.1.1
  body_stays st Empty b h = absurd h

  pub body_looked : (n : ℕ) (st : State) (v : Body T) (b : State) → BodyReads st v b
      → (m : ℕ) × BodyReads (looking n st) v (looking m b)
  body_looked n st (Value v) b h = let f = rv.looked n st v b h.1.1 in (f.0, (h.0, (h.1.0, f.1)))
  body_looked n st (Data v) b h = let f = rd.looked n st v b h.1.1 in (f.0, (h.0, (h.1.0, f.1)))
  body_looked n st (Sequence v) b h = let f = rs.looked n st v b h.1.1 in (f.0, (h.0, (h.1.0, f.1)))
  body_looked n st Empty b h = absurd h

  pub body_elsewhere : (source : Source) (failed : Bool) (st : State) (v : Body T) (b : State) → BodyReads st v b
      → BodyReads (elsewhere source failed st) v (elsewhere source failed b)
  body_elsewhere source failed st (Value v) b h = (h.0, (h.1.0, rv.reads_elsewhere source failed st v b h.1.1))
  body_elsewhere source failed st (Data v) b h = (h.0, (h.1.0, rd.reads_elsewhere source failed st v b h.1.1))
  body_elsewhere source failed st (Sequence v) b h = (h.0, (h.1.0, rs.reads_elsewhere source failed st v b h.1.1))
  body_elsewhere source failed st Empty b h = absurd h

  pub fault_elsewhere : (source : Source) (failed : Bool) (st : State) (e : Located) → BodyFault st e
      → BodyFault (elsewhere source failed st) e
  fault_elsewhere source failed st e (not_top n) = not_top n
  fault_elsewhere source failed st e (in_value a f) = in_value a (rv.fault_elsewhere source failed st e f)
  fault_elsewhere source failed st e (in_data a f) = in_data a (rd.fault_elsewhere source failed st e f)
  fault_elsewhere source failed st e (in_sequence a f) = in_sequence a (rs.fault_elsewhere source failed st e f)
  fault_elsewhere source failed st e (other_section a f g h i left) = other_section a f g h i left
  fault_elsewhere source failed st e (not_section a f) = not_section a (no_section_elsewhere source failed st e f)

  pub not_outside : (e : Located) → IsOutside e.error → (st : State) → BodyFault st e → ⊥
  not_outside e o st (not_top n) = outside_other e.error InvalidValue (λ x. x) o n.0.1
  not_outside e o st (in_value a f) = rv.not_outside e o st f
  not_outside e o st (in_data a f) = rd.not_outside e o st f
  not_outside e o st (in_sequence a f) = rs.not_outside e o st f
  not_outside e o st (other_section a f g h i left) = outside_other e.error WrongDescriptor (λ x. x) o i
  not_outside e o st (not_section a f) = no_section_not_outside e o st f

  pub body_within : (st : State) (e : Located) → BodyFault st e → e.left ≤ length st.rest
  body_within st e (not_top n) = omega (arith, n.1)
  body_within st e (in_value a f) = rv.within st e f
  body_within st e (in_data a f) = rd.within st e f
  body_within st e (in_sequence a f) = rs.within st e f
  body_within st e (other_section a f g h i left) = omega (arith, left)
  body_within st e (not_section a f) = no_section_within st e f

  -- How a body of any kind is read.
  abbrev pub body_reading : Reading (Body T)
  body_reading = record {
    same = SameBody;
    reads = BodyReads;
    fault = BodyFault;
    not_outside = not_outside;
    takes_memory = true;
    count = count_body;
    looks_on = true;
    one_term = false;
    same_sym = same_sym;
    same_trans = same_trans;
    one = body_one;
    going = body_going;
    counted = body_counted;
    taken = body_taken;
    stays = body_stays;
    misspelled = λ h. absurd (no_term h);
    within = body_within;
    reads_alone = λ h. absurd (no_term h);
    fault_alone = λ h. absurd (no_term h);
    looked = body_looked;
    reads_elsewhere = body_elsewhere;
    fault_elsewhere = fault_elsewhere;
  }

  pub body_bound : IsBoundByLimits rv → IsBoundByLimits (run_reading 0x75 rd) → IsBoundByLimits (run_reading 0x76 rs)
      → IsBoundByLimits body_reading
  body_bound bv bd bs st (Value v) b fresh h =
      takes_so (λ first last. rv.reads first v last) (λ first last. BodyReads first (Value v) last) st b st b refl refl
      (λ free nesting left quota l q read. (h.0, (h.1.0, read))) (bv st v b fresh h.1.1)
  body_bound bv bd bs st (Data v) b fresh h =
      takes_so (λ first last. RunReads 0x75 rd first v last) (λ first last. BodyReads first (Data v) last) st b st b refl refl
      (λ free nesting left quota l q read. (h.0, read)) (bd st v b fresh h.1)
  body_bound bv bd bs st (Sequence v) b fresh h =
      takes_so (λ first last. RunReads 0x76 rs first v last) (λ first last. BodyReads first (Sequence v) last) st b st b refl refl
      (λ free nesting left quota l q read. (h.0, read)) (bs st v b fresh h.1)
  body_bound bv bd bs st Empty b fresh h = absurd h
