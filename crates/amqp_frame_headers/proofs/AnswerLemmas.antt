-- An input has one answer: a frame, a fault, or a number of bytes that it lacks.
use Rattle.std.proofs.Common.{◌≡◌, ℕ, ◌+◌, ◌-◌, ◌*◌, ◌<◌, ◌≤◌, ◌⊎◌, List, ◌++◌, length, refl, sym, ◌∙◌, ap, subst, take, inl, inr, arith, cond, Result, Ok, Err, false}
use Rattle.std.proofs.Math.Dec.{ltb}
use Rattle.std.proofs.lemmas.Bool.{lt-ltb}
use Rattle.std.proofs.lemmas.Bool.Decides.{leb_tells, nat_tests}
use Rattle.std.proofs.lemmas.List.{length-append}
use Rattle.amqp_frame_headers.specs.declared.frame_error.FrameError.{FrameError}
use Rattle.amqp_frame_headers.specs.declared.frame_error.FrameError.TheVariants.{SizeBelowHeader, SizeAboveMaximum}
use Rattle.amqp_frame_headers.specs.declared.frame_error.FrameError.TheVariants.{DataOffsetBelowHeader, DataOffsetPastSize, UnknownType}
use Rattle.amqp_frame_headers.specs.declared.frame_error.FrameError.TheVariants.{SaslAboveLimit, NotProtocolHeader}
use Rattle.amqp_frame_headers.specs.declared.frame_header.FrameHeader.{FrameHeader}
use Rattle.amqp_frame_headers.specs.Frames.{size_of, data_offset_of, type_of, HasSize, HasDataOffset, HasType, IsFrame, BeginsWithFrame, FrameFault, BreaksNoRule, NeedsMore}
use Rattle.amqp_frame_headers.proofs.FrameLemmas.{agree-append, agree-take, size-agree, has_type-take, fault_longer, frame_sound, eight_bytes, size_is, one_frame}

-- ---- a fault and no fault

pub no_fault : (max : ℕ) (input : List ℕ) (e : FrameError) → BreaksNoRule max input → FrameFault max input e → ⊥
no_fault max input SizeBelowHeader s f = omega (arith, (s.size f.0).least, f.1)
no_fault max input SizeAboveMaximum s f = omega (arith, (s.size f.0).most, f.2)
no_fault max input DataOffsetBelowHeader s f = omega (arith, (s.data_offset f.1).least, f.2)
no_fault max input DataOffsetPastSize s f = omega (arith, (s.data_offset f.1).most, f.3)
no_fault max input (UnknownType code) s f =
    elim (s.frame_type f.1).known [ inl p ↦ omega (arith, p, f.2) | inr p ↦ omega (arith, p.0, f.2) ]
no_fault max input SaslAboveLimit s f =
    elim (s.frame_type f.1).known [ inl p ↦ omega (arith, p, f.2) | inr p ↦ omega (arith, p.1, f.3) ]
no_fault max input NotProtocolHeader s f = f

pub sound_type : (max : ℕ) (input : List ℕ) → HasType max input → BreaksNoRule max input
sound_type max input t = record {
  size = λ _. t.data_offset.size;
  data_offset = λ _. t.data_offset;
  frame_type = λ _. t;
}

pub frame_or_fault : (max : ℕ) (input : List ℕ) (h : FrameHeader) (x b : List ℕ) (e : FrameError) → BeginsWithFrame max input h x b
    → FrameFault max input e → ⊥
frame_or_fault max input h x b e f = no_fault max input e (sound_type max input (frame_sound max input h x b f))

pub need_or_fault : (max : ℕ) (input : List ℕ) (n : ℕ) (e : FrameError) → NeedsMore max input n → FrameFault max input e → ⊥
need_or_fault max input n e needs = no_fault max input e needs.sound

pub frame_or_need : (max : ℕ) (input : List ℕ) (h : FrameHeader) (x b : List ℕ) (n : ℕ) → BeginsWithFrame max input h x b
    → NeedsMore max input n → ⊥
frame_or_need max input h x b n f needs =
    let there : h.size ≤ length input = f.there in
    let size : h.size ≡ size_of input = size_is max input h x b f in
    let sound : HasType max input = frame_sound max input h x b f in
    let missing : 0 < n = needs.missing in
    let four : 4 ≤ length input = sound.data_offset.size.there in
    let rest : length input + n ≡ size_of input = needs.after_size four in
    omega arith

pub one_need : (max limit : ℕ) (input : List ℕ) (m n : ℕ) → NeedsMore max input m → NeedsMore limit input n → m ≡ n
one_need max limit input m n p q =
    elim (leb_tells 4 (length input)) [
      | inl four ↦ omega (arith, p.after_size four.1, q.after_size four.1)
      | inr few ↦ omega (arith, p.before_size few.1, q.before_size few.1)
    ]

-- ---- one fault

first_fault : (max size offset code : ℕ) → FrameError
first_fault max size offset code =
    cond (ltb size 8) SizeBelowHeader (cond (ltb max size) SizeAboveMaximum (cond (ltb offset 2) DataOffsetBelowHeader
    (cond (ltb size (4 * offset)) DataOffsetPastSize (cond (ltb 1 code) (UnknownType code) SaslAboveLimit))))

not_below : (a b : ℕ) → b ≤ a → ltb a b ≡ false
not_below a b h = grind (arith, nat_tests)

fault_is_first : (max : ℕ) (input : List ℕ) (e : FrameError) → FrameFault max input e
    → e ≡ first_fault max (size_of input) (data_offset_of input) (type_of input)
unfolding first_fault
fault_is_first max input SizeBelowHeader f = rw (lt-ltb (size_of input) 8 f.1)
fault_is_first max input SizeAboveMaximum f = rw (not_below (size_of input) 8 f.1, lt-ltb max (size_of input) f.2)
fault_is_first max input DataOffsetBelowHeader f =
    rw (not_below (size_of input) 8 f.0.least, not_below max (size_of input) f.0.most, lt-ltb (data_offset_of input) 2 f.2)
fault_is_first max input DataOffsetPastSize f =
    rw (
      not_below (size_of input) 8 f.0.least,
      not_below max (size_of input) f.0.most,
      not_below (data_offset_of input) 2 f.2,
      lt-ltb (size_of input) (4 * data_offset_of input) f.3,
    )
fault_is_first max input (UnknownType code) f =
    rw (
      not_below (size_of input) 8 f.0.size.least,
      not_below max (size_of input) f.0.size.most,
      not_below (data_offset_of input) 2 f.0.least,
      not_below (size_of input) (4 * data_offset_of input) f.0.most,
      lt-ltb 1 (type_of input) f.2,
    ) (ap (λ (n : ℕ). UnknownType n) f.3)
fault_is_first max input SaslAboveLimit f =
    let code : type_of input ≤ 1 = omega (arith, f.2) in
    rw (
      not_below (size_of input) 8 f.0.size.least,
      not_below max (size_of input) f.0.size.most,
      not_below (data_offset_of input) 2 f.0.least,
      not_below (size_of input) (4 * data_offset_of input) f.0.most,
      not_below 1 (type_of input) code,
    )
fault_is_first max input NotProtocolHeader f = absurd f

pub one_fault : (max : ℕ) (input : List ℕ) (e d : FrameError) → FrameFault max input e → FrameFault max input d → e ≡ d
one_fault max input e d f g = fault_is_first max input e f ∙ sym (fault_is_first max input d g)

-- ---- some answer

abbrev SomeFault : ℕ → List ℕ → Type 0
SomeFault max input = (e : FrameError) × FrameFault max input e

some_size : (max : ℕ) (input : List ℕ) → 4 ≤ length input → SomeFault max input ⊎ HasSize max input
some_size max input four =
    elim (leb_tells 8 (size_of input)) [
      | inr small ↦ inl (SizeBelowHeader, (four, small.1))
      | inl least ↦ elim (leb_tells (size_of input) max) [
        | inr large ↦ inl (SizeAboveMaximum, (four, least.1, large.1))
        | inl most ↦ inr (record { there = four; least = least.1; most = most.1 })
      ]
    ]

some_data_offset : (max : ℕ) (input : List ℕ) → HasSize max input → 5 ≤ length input → SomeFault max input ⊎ HasDataOffset max input
some_data_offset max input size five =
    elim (leb_tells 2 (data_offset_of input)) [
      | inr small ↦ inl (DataOffsetBelowHeader, (size, five, small.1))
      | inl least ↦ elim (leb_tells (4 * data_offset_of input) (size_of input)) [
        | inr large ↦ inl (DataOffsetPastSize, (size, five, least.1, large.1))
        | inl most ↦ inr (record { size = size; there = five; least = least.1; most = most.1 })
      ]
    ]

some_type : (max : ℕ) (input : List ℕ) → HasDataOffset max input → 6 ≤ length input → SomeFault max input ⊎ HasType max input
some_type max input offset six =
    elim (leb_tells (type_of input) 1) [
      | inr unknown ↦ inl (UnknownType (type_of input), (offset, six, unknown.1, refl))
      | inl known ↦ elim (leb_tells (type_of input) 0) [
        | inl amqp ↦ inr (record { data_offset = offset; there = six; known = inl (omega (arith, amqp.1)) })
        | inr sasl ↦
            let one : type_of input ≡ 1 = omega (arith, known.1, sasl.1) in
            elim (leb_tells (size_of input) 512) [
              | inr large ↦ inl (SaslAboveLimit, (offset, six, one, large.1))
              | inl most ↦ inr (record { data_offset = offset; there = six; known = inr (one, most.1) })
            ]
      ]
    ]

sound_or_fault : (max : ℕ) (input : List ℕ) → SomeFault max input ⊎ BreaksNoRule max input
sound_or_fault max input =
    elim (leb_tells 4 (length input)) [
      | inr few ↦ inr (record {
        size = λ h. absurd (omega (arith, h, few.1));
        data_offset = λ h. absurd (omega (arith, h, few.1));
        frame_type = λ h. absurd (omega (arith, h, few.1));
      })
      | inl four ↦ elim (some_size max input four.1) [
        | inl fault ↦ inl fault
        | inr size ↦ elim (leb_tells 5 (length input)) [
          | inr few ↦ inr (record {
            size = λ _. size;
            data_offset = λ h. absurd (omega (arith, h, few.1));
            frame_type = λ h. absurd (omega (arith, h, few.1));
          })
          | inl five ↦ elim (some_data_offset max input size five.1) [
            | inl fault ↦ inl fault
            | inr offset ↦ elim (leb_tells 6 (length input)) [
              | inr few ↦ inr (record {
                size = λ _. size;
                data_offset = λ _. offset;
                frame_type = λ h. absurd (omega (arith, h, few.1));
              })
              | inl six ↦ elim (some_type max input offset six.1) [
                | inl fault ↦ inl fault
                | inr known ↦ inr (sound_type max input known)
              ]
            ]
          ]
        ]
      ]
    ]

-- what an input that lacks n bytes has after some of them
abbrev LacksRest : (max n : ℕ) (input more : List ℕ) → Type 0
LacksRest max n input more =
    (m : ℕ) × NeedsMore max (input ++ more) m × (n ≤ length more + m) × (4 ≤ length input → n ≡ length more + m)

rest_sound : (max n : ℕ) (input more : List ℕ) → NeedsMore max input n → length more < n → BreaksNoRule max (input ++ more)
    → LacksRest max n input more
rest_sound max n input more needs few sound =
    let l : length (input ++ more) ≡ length input + length more = length-append input more in
    elim (leb_tells 4 (length input)) [
      | inl four ↦
          let rest : length input + n ≡ size_of input = needs.after_size four.1 in
          let e : size_of input ≡ size_of (input ++ more) =
          size-agree input (input ++ more) (agree-append 4 input more four.1) in (
            n - length more,
            record {
              sound = sound;
              missing = omega (arith, few);
              before_size = λ h. absurd (omega (arith, h, four.1, l));
              after_size = λ _. omega (arith, l, rest, e, few);
            },
            omega (arith, few),
            λ _. omega (arith, few),
          )
      | inr short ↦
          let rest : length input + n ≡ 8 = needs.before_size short.1 in
          elim (leb_tells 4 (length (input ++ more))) [
            | inr still ↦ (
              n - length more,
              record {
                sound = sound;
                missing = omega (arith, few);
                before_size = λ _. omega (arith, l, rest, few);
                after_size = λ h. absurd (omega (arith, h, still.1));
              },
              omega (arith, few),
              λ h. absurd (omega (arith, h, short.1)),
            )
            | inl four ↦
                let least : 8 ≤ size_of (input ++ more) = (sound.size four.1).least in (
                  size_of (input ++ more) - length (input ++ more),
                  record {
                    sound = sound;
                    missing = omega (arith, l, rest, few, least);
                    before_size = λ h. absurd (omega (arith, h, four.1));
                    after_size = λ _. omega (arith, l, rest, few, least);
                  },
                  omega (arith, l, rest, few, least),
                  λ h. absurd (omega (arith, h, short.1)),
                )
          ]
    ]

pub needs_agree : (max n : ℕ) (input more : List ℕ) → NeedsMore max input n → length more < n
    → LacksRest max n input more ⊎ SomeFault max (input ++ more)
needs_agree max n input more needs few =
    elim (sound_or_fault max (input ++ more)) [
      | inl fault ↦ inr fault
      | inr sound ↦ inl (rest_sound max n input more needs few sound)
    ]

-- Each proper prefix of a frame lacks bytes, and no more than the rest of the frame.
pub prefix_needs_more : (max : ℕ) (input more : List ℕ) (h : FrameHeader) (x b : List ℕ) → BeginsWithFrame max (input ++ more) h x b
    → length input < h.size → (n : ℕ) × NeedsMore max input n × (length input + n ≤ h.size) × (4 ≤ length input → length input + n ≡ h.size)
prefix_needs_more max input more h x b f few =
    let size : h.size ≡ size_of (input ++ more) = size_is max (input ++ more) h x b f in
    let least : 8 ≤ h.size = eight_bytes max (input ++ more) h x b f in
    elim (sound_or_fault max input) [
      | inl fault ↦
          absurd (
          frame_or_fault max (input ++ more) h x b fault.0 f (fault_longer max input more fault.0 fault.1)
          )
      | inr sound ↦ elim (leb_tells 4 (length input)) [
        | inl four ↦
            let e : size_of input ≡ size_of (input ++ more) =
            size-agree input (input ++ more) (agree-append 4 input more four.1) in (
              h.size - length input,
              record {
                sound = sound;
                missing = omega (arith, few);
                before_size = λ k. absurd (omega (arith, k, four.1));
                after_size = λ _. omega (arith, few, e, size);
              },
              omega (arith, few),
              λ _. omega (arith, few),
            )
        | inr short ↦ (
          8 - length input,
          record {
            sound = sound;
            missing = omega (arith, short.1);
            before_size = λ _. omega (arith, short.1);
            after_size = λ k. absurd (omega (arith, k, short.1));
          },
          omega (arith, short.1, least),
          λ k. absurd (omega (arith, k, short.1)),
        )
      ]
    ]

-- ---- what is returned

pub needs_before_size : (max : ℕ) (input : List ℕ) → length input < 4 → NeedsMore max input (8 - length input)
needs_before_size max input few = record {
  sound = record {
    size = λ h. absurd (omega (arith, h, few));
    data_offset = λ h. absurd (omega (arith, h, few));
    frame_type = λ h. absurd (omega (arith, h, few));
  };
  missing = omega (arith, few);
  before_size = λ _. omega (arith, few);
  after_size = λ h. absurd (omega (arith, h, few));
}

pub needs_after_size : (max size : ℕ) (input : List ℕ) → size ≡ size_of input → HasSize max input
    → (5 ≤ length input → HasDataOffset max input) → (6 ≤ length input → HasType max input) → length input < size
    → NeedsMore max input (size - length input)
needs_after_size max size input is has offset kind few = record {
  sound = record { size = λ _. has; data_offset = offset; frame_type = kind };
  missing = omega (arith, few);
  before_size = λ h. absurd (omega (arith, h, has.there));
  after_size = λ _. omega (arith, few, is);
}

-- The first bytes, as many as SIZE says, break no rule.
pub whole_sound : (max size : ℕ) (input : List ℕ) → size ≡ size_of input → HasSize max input → (6 ≤ length input → HasType max input)
    → size ≤ length input → HasType max (take size input)
whole_sound max size input is has kind there =
    let least : 8 ≤ size = omega (arith, is, has.least) in
    has_type-take max size input (omega (arith, least)) there (kind (omega (arith, least, there)))

pub whole_size : (max size : ℕ) (input : List ℕ) → size ≡ size_of input → HasSize max input → size ≤ length input
    → size ≡ size_of (take size input)
whole_size max size input is has there =
    let least : 8 ≤ size = omega (arith, is, has.least) in
    is ∙ size-agree input (take size input) (agree-take 4 size input (omega (arith, least)) there)

pub frame_begins : (max size : ℕ) (input : List ℕ) (h : FrameHeader) (x b : List ℕ) → size ≡ size_of input → HasSize max input
    → size ≤ length input → IsFrame max (take size input) h x b → BeginsWithFrame max input h x b
frame_begins max size input h x b is has there frame =
    let e : size ≡ h.size = whole_size max size input is has there ∙ sym frame.size in
    record {
      there = omega (arith, e, there);
      is = subst (λ (n : ℕ). IsFrame max (take n input) h x b) e frame;
    }
