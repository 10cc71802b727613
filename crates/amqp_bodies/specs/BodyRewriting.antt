-- A body of any kind is read again from its canonical text.
use Rattle.std.proofs.Common.{◌≡◌, ◌⊎◌, inl, inr, ℕ, List, [], ◌∷◌, ◌++◌, codes, arith, length, false, refl, ap, subst}
use Rattle.amqp_wire.specs.declared.error.Error.{Error}
use Rattle.amqp_wire.specs.declared.error.Error.TheVariants.{TooLarge}
use Rattle.amqp_model.specs.Term.{null, leaf}
use Rattle.amqp_lookahead.specs.Sections.{IsSectionAhead}
use Rattle.amqp_encoder.specs.Passes.{row_text}
use Rattle.amqp_codec.specs.Reading.{Reading, BeginsWith}
use Rattle.amqp_codec.specs.Rewriting.{Rewriting}
use Rattle.amqp_codec.specs.Written.{AreUnwritable, AreWritable, Writing}
use Rattle.amqp_sections.specs.declared.data.Data.{Data as DataSection}
use Rattle.amqp_sections.specs.declared.amqp_sequence.AmqpSequence.{AmqpSequence}
use Rattle.amqp_sections.specs.declared.amqp_value.AmqpValue.{AmqpValue}
use Rattle.amqp_batches.specs.declared.transparent_vec.TransparentVec.{TransparentVec}
use Rattle.amqp_batches.specs.laws.Bound.{begins_without_limits}
use Rattle.amqp_batches.specs.laws.Walk.{no_term}
use Rattle.amqp_batches.specs.Sections.{IsSectionCode, begins_as_section}
use Rattle.amqp_batches.specs.GroupTexts.{GroupText}
use Rattle.amqp_batches.specs.SectionGroups.{run_reading}
use Rattle.amqp_bodies.specs.declared.body.Body.{Body}
use Rattle.amqp_bodies.specs.declared.body.Body.TheVariants.{Value, Data, Sequence, Empty}
use Rattle.amqp_bodies.specs.BodyReading.{body_reading, body_bound, SameBody}
use Rattle.amqp_bodies.specs.BodyWriting.{null_section, null_proper, body_writing}

-- The codes of data, sequences and values.
abbrev pub IsBodyCode : ℕ → Type 0
IsBodyCode c = (c ≡ 0x75) ⊎ ((c ≡ 0x76) ⊎ (c ≡ 0x77))

abbrev pub NoBodyFollows : List ℕ → Type 0
NoBodyFollows more = (c : ℕ) → IsBodyCode c → IsSectionAhead more c → ⊥

-- By what each kind is read as again, and by what holds of each kind.
abbrev pub each_again : {T : Type 0} → (AmqpValue T → AmqpValue T) → (TransparentVec DataSection → TransparentVec DataSection)
    → (TransparentVec (AmqpSequence T) → TransparentVec (AmqpSequence T)) → Body T → Body T → Body T
each_again f g h e (Value v) = Value (f v)
each_again f g h e (Data v) = Data (g v)
each_again f g h e (Sequence v) = Sequence (h v)
each_again f g h e Empty = e

abbrev pub IsEach : {T : Type 0} → (AmqpValue T → Type 0) → (TransparentVec DataSection → Type 0)
    → (TransparentVec (AmqpSequence T) → Type 0) → Type 0 → Body T → Type 0
IsEach P Q R E (Value v) = P v
IsEach P Q R E (Data v) = Q v
IsEach P Q R E (Sequence v) = R v
IsEach P Q R E Empty = E

-- the text of a null value begins as one
pub null_code : IsSectionCode 0x77
null_code = record {
  is_code = (codes "amqp:amqp-value:*", (7, omega arith, refl), inl refl);
  short = refl;
  names = (0x53, 0x77 ∷ [], refl, (refl, refl, tt));
}

abbrev null_writing : Writing (Unit {0})
null_writing = record { canons = λ v. null_section; is_value = λ v. Unit {0}; proper = λ v i. null_proper }

pub null_ahead : (more : List ℕ) → IsSectionAhead (row_text null_section ++ more) 0x77
null_ahead more =
    begins_as_section 0x77 null_writing (record { is_section = null_code; content = λ v. leaf null; canon_is = λ v. refl }) tt more

module _ {T : Type 0} (rv : Reading (AmqpValue T)) (rd : Reading (TransparentVec DataSection))
    (rs : Reading (TransparentVec (AmqpSequence T))) (tv : GroupText rv (λ k. k ≡ 0x77)) (td : GroupText (run_reading 0x75 rd) (λ k. k ≡ 0x75))
    (ts : GroupText (run_reading 0x76 rs) (λ k. k ≡ 0x76)) where
  abbrev r : Reading (Body T)
  r = body_reading rv rd rs

  abbrev w : Writing (Body T)
  w = body_writing tv.writing td.writing ts.writing

  -- What the text of a body that isn't there is read as, if it is read.
  pub record EmptyText : Type 1 where
    pub lasts : Type 0
    pub again : Body T
    pub reads_again : lasts → (more : List ℕ) → NoBodyFollows more
        → BeginsWith r (row_text null_section ++ more) again (length (row_text null_section))
    pub text_again : row_text (w.canons again) ≡ row_text null_section

  module _ (empty : EmptyText) where
    abbrev pub body_again : Body T → Body T
    body_again = each_again tv.again td.again ts.again empty.again

    abbrev pub IsBodyKept : Body T → Type 0
    IsBodyKept = IsEach tv.kept td.kept ts.kept ⊥

    abbrev pub DoesBodyLast : Body T → Type 0
    DoesBodyLast = IsEach tv.lasts td.lasts ts.lasts empty.lasts

    value_read : (input : List ℕ) (v : AmqpValue T) (n : ℕ) → BeginsWith r input (Value v) n → BeginsWith rv input v n
    value_read input v n h = record { after = h.after; read = h.read.1.1; left = h.left }

    data_read : (input : List ℕ) (v : TransparentVec DataSection) (n : ℕ) → BeginsWith r input (Data v) n
        → BeginsWith (run_reading 0x75 rd) input v n
    data_read input v n h = record { after = h.after; read = h.read.1; left = h.left }

    sequence_read : (input : List ℕ) (v : TransparentVec (AmqpSequence T)) (n : ℕ) → BeginsWith r input (Sequence v) n
        → BeginsWith (run_reading 0x76 rs) input v n
    sequence_read input v n h = record { after = h.after; read = h.read.1; left = h.left }

    same_canons : (v x : Body T) → SameBody rv rd rs v x → w.canons v ≡ w.canons x
    same_canons (Value v) (Value x) h = tv.rewriting.canons_same v x h.0
    same_canons (Data v) (Data x) h = td.rewriting.canons_same v x h.1
    same_canons (Sequence v) (Sequence x) h = ts.rewriting.canons_same v x h.2
    same_canons Empty Empty h = refl
    same_canons (Value v) (Data x) h = absurd h.0
    same_canons (Value v) (Sequence x) h = absurd h.0
    same_canons (Value v) Empty h = absurd h.0
    same_canons (Data v) (Value x) h = absurd h.0
    same_canons (Data v) (Sequence x) h = absurd h.1
    same_canons (Data v) Empty h = absurd h.1
    same_canons (Sequence v) (Value x) h = absurd h.0
    same_canons (Sequence v) (Data x) h = absurd h.1
    same_canons (Sequence v) Empty h = absurd h.2
    same_canons Empty (Value x) h = absurd h.0
    same_canons Empty (Data x) h = absurd h.1
    same_canons Empty (Sequence x) h = absurd h.2

    reads_again : (v : Body T) (more : List ℕ) → w.is_value v → DoesBodyLast v → AreWritable (w.canons v) → NoBodyFollows more
        → BeginsWith r (row_text (w.canons v) ++ more) (body_again v) (length (row_text (w.canons v)))
    reads_again (Value v) more i l f ends =
        let k = tv.rewriting.reads_again v more i l f (tv.ends more (λ c is. ends c (inr (inr is)))) in
        let b = tv.begins v i l more in
        record { after = k.after; read = ((refl, refl, refl, refl), (subst (IsSectionAhead (row_text (tv.writing.canons v) ++ more)) b.1 b.2, k.read)); left = k.left }
    reads_again (Data v) more i l f ends =
        let k = td.rewriting.reads_again v more i l f (td.ends more (λ c is. ends c (inl is))) in
        record { after = k.after; read = ((refl, refl, refl, refl), k.read); left = k.left }
    reads_again (Sequence v) more i l f ends =
        let k = ts.rewriting.reads_again v more i l f (ts.ends more (λ c is. ends c (inr (inl is)))) in
        record { after = k.after; read = ((refl, refl, refl, refl), k.read); left = k.left }
    reads_again Empty more i l f ends = empty.reads_again l more ends

    text_again : (v : Body T) → w.is_value v → AreWritable (w.canons v) → row_text (w.canons (body_again v)) ≡ row_text (w.canons v)
    text_again (Value v) i f = tv.rewriting.text_again v i f
    text_again (Data v) i f = td.rewriting.text_again v i f
    text_again (Sequence v) i f = ts.rewriting.text_again v i f
    text_again Empty i f = empty.text_again

    is_value : (input : List ℕ) (v : Body T) (n : ℕ) → BeginsWith r input v n → w.is_value v
    is_value input (Value v) n h = tv.rewriting.value input v n (value_read input v n h)
    is_value input (Data v) n h = td.rewriting.value input v n (data_read input v n h)
    is_value input (Sequence v) n h = ts.rewriting.value input v n (sequence_read input v n h)
    is_value input Empty n h = absurd h.read

    own : (input : List ℕ) (v : Body T) (n : ℕ) → BeginsWith r input v n → IsBodyKept v → SameBody rv rd rs (body_again v) v
    own input (Value v) n h k = (tv.rewriting.own input v n (value_read input v n h) k, tt, tt)
    own input (Data v) n h k = (tt, td.rewriting.own input v n (data_read input v n h) k, tt)
    own input (Sequence v) n h k = (tt, tt, ts.rewriting.own input v n (sequence_read input v n h) k)
    own input Empty n h k = absurd k

    large : (input : List ℕ) (v : Body T) (n : ℕ) (e : Error) → BeginsWith r input v n → AreUnwritable (w.canons v) e → e ≡ TooLarge
    large input (Value v) n e h = tv.rewriting.large input v n e (value_read input v n h)
    large input (Data v) n e h = td.rewriting.large input v n e (data_read input v n h)
    large input (Sequence v) n e h = ts.rewriting.large input v n e (sequence_read input v n h)
    large input Empty n e h = absurd h.read

    pub body_rewrites : Rewriting r w.canons w.is_value NoBodyFollows body_again IsBodyKept DoesBodyLast false
    body_rewrites = record {
      alone = λ c is h. (let e = ap length h.split in absurd (cc));
      canons_same = same_canons;
      reads_again = reads_again;
      text_again = text_again;
      value = is_value;
      own = own;
      large = large;
      bounded = begins_without_limits r (body_bound rv rd rs tv.bound td.bound ts.bound);
      least = λ l. absurd (no_term l);
    }

    pub lasting : (input : List ℕ) (v : Body T) (n : ℕ) → BeginsWith r input v n → DoesBodyLast v
    lasting input (Value v) n h = tv.lasting input v n (value_read input v n h)
    lasting input (Data v) n h = td.lasting input v n (data_read input v n h)
    lasting input (Sequence v) n h = ts.lasting input v n (sequence_read input v n h)
    lasting input Empty n h = absurd h.read

    -- The text begins as a section of the body's kind.
    pub begins : (v : Body T) → w.is_value v → DoesBodyLast v → (more : List ℕ)
        → (c : ℕ) × IsBodyCode c × IsSectionAhead (row_text (w.canons v) ++ more) c
    begins (Value v) i l more = let b = tv.begins v i l more in (b.0, inr (inr b.1), b.2)
    begins (Data v) i l more = let b = td.begins v i l more in (b.0, inl b.1, b.2)
    begins (Sequence v) i l more = let b = ts.begins v i l more in (b.0, inr (inl b.1), b.2)
    begins Empty i l more = (0x77, inr (inr refl), null_ahead more)

    -- How a body of any kind is written and read again as a group.
    abbrev pub body_text : GroupText r IsBodyCode
    body_text = record {
      writing = w;
      follows = NoBodyFollows;
      again = body_again;
      kept = IsBodyKept;
      lasts = DoesBodyLast;
      is_least = false;
      bound = body_bound rv rd rs tv.bound td.bound ts.bound;
      rewriting = body_rewrites;
      lasting = lasting;
      begins = begins;
      ends = λ more f. f;
    }
