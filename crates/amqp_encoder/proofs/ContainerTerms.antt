-- Terms that hold no list, map or array are measured without memory.
use Rattle.std.proofs.Common.{◌≡◌, ℕ, ◌+◌, ◌-◌, List, [], ◌∷◌, ◌++◌, length, take, refl, ap, inl, inr, ◌⊎◌, Bool, true, false, ◌&&◌}
use Rattle.std.specs.Prelude.{Result, Ok, Err, if◌then◌else◌, ltb, eqb, not, ◌||◌, set}
use Rattle.amqp_model.specs.Term.{Primitive, null, Container, Term, leaf, container, described, kept, barred}
use Rattle.amqp_model.specs.Spelling.{descriptor_value}
use Rattle.amqp_model.specs.Text.{Place, Alone, First, Later, next, wide, primitive_text}
use Rattle.amqp_model.specs.Refusals.{Somewhere}
use Rattle.amqp_wire.specs.declared.error.Error.{Error}
use Rattle.amqp_wire.specs.declared.error.Error.TheVariants.{OddCount, Depth, TooLarge, InvalidValue}
use Rattle.amqp_encoder.specs.Opening.{opening}
use Rattle.amqp_encoder.specs.State.{Pass, Measuring, Filling, Stopped}
use Rattle.amqp_encoder.specs.Tokens.{Token, put, keep, begin, end, begin_described, end_described, refuse, TakesMemory, tokens}
use Rattle.amqp_encoder.specs.State.{Open, Measured, Filled, at_start}
use Rattle.amqp_encoder.specs.Measuring.{◌>>=◌, checked, enter, take_form, leave, measure_value, measure_null_at, measure_checked}
use Rattle.amqp_encoder.specs.Measuring.{measure_keep_at, MAX, is_full, is_none, is_odd_map, holds as holds_, describe_at, descriptor_bytes}
use Rattle.amqp_encoder.specs.Measuring.{end_in, end_described_in, closed, size_of}
use Rattle.amqp_encoder.specs.Passes.{row_tokens, IsContainer, HoldOthers}
use Rattle.amqp_encoder.specs.Writes.{measure, fill, measuring, filling, step, MayRunOut, AnyMayRunOut}

-- no open value stands in an array
abbrev AllPlain : List Open → Type 0
AllPlain [] = Unit {0}
AllPlain (o ∷ os) = (o.place ≡ Alone) × AllPlain os

abbrev Plainly : Measured → Type 0
Plainly m = (m.frame.place ≡ Alone) × AllPlain m.outer

abbrev Stays : Result Measured Error → Type 0
Stays (Ok m) = Plainly m
Stays (Err e) = Unit {0}

either : (b : Bool) (r s : Result Measured Error) → Stays r → Stays s → Stays (if b then r else s)
either true r s h k = h
either false r s h k = k

then_ : {A : Type 0} (r : Result A Error) (f : A → Result Measured Error) → ((a : A) → Stays (f a)) → Stays (r >>= f)
then_ (Ok a) f h = h a
then_ (Err e) f h = tt

after : (r : Result Measured Error) (f : Measured → Result Measured Error) → Stays r
    → ((m : Measured) → Plainly m → Stays (f m)) → Stays (r >>= f)
after (Ok m) f h k = k m h
after (Err e) f h k = tt

leaves : (n : ℕ) (m : Measured) → Plainly m → Stays (leave n m)
leaves n m h =
    either (ltb MAX (m.frame.content + n) || ltb MAX (m.frame.count + 1)) (Err TooLarge)
    (Ok (record m { frame = record m.frame { content = m.frame.content + n; count = m.frame.count + 1; place = next m.frame.place } })) tt
    (ap next h.0, h.1)

takes : (p : Place) (code : ℕ) (m : Measured) → p ≡ Alone → Plainly m → Stays (take_form p code m)
takes Alone code m i h = h
takes First code m i h = cc
takes Later code m i h = cc

values : (code len : ℕ) (m : Measured) → Plainly m → Stays (measure_value code len m)
values code len m h =
    after (enter code m) (leave len)
    (either (is_full m.frame) (Err InvalidValue) (take_form m.frame.place code m) tt (takes m.frame.place code m h.0 h))
    (λ n k. leaves len n k)

nulls : (p : Place) (m : Measured) → Plainly m → Stays (measure_null_at p m)
nulls Alone m h = values 0x40 1 m h
nulls First m h = tt
nulls Later m h = tt

primitives : (p : Primitive) (m : Measured) → Plainly m → Stays (measure_checked p m)
primitives null m h = nulls m.frame.place m h
primitives p m h = values (wide p).0 (length (primitive_text m.frame.place p)) m h

keeps : (p : Place) (len nesting : ℕ) (m : Measured) → Plainly m → Stays (measure_keep_at p len nesting m)
keeps Alone len nesting m h =
    either (ltb 128 nesting || ltb (128 - nesting) (length m.outer)) (Err Depth) (measure_value 0 len m) tt (values 0 len m h)
keeps First len nesting m h = tt
keeps Later len nesting m h = tt

describes : (p : Place) (bytes : List ℕ) (m : Measured) → p ≡ Alone → Plainly m → Stays (describe_at p bytes m)
describes Alone bytes m i h = (h.0, (h.0, h.1))
describes First bytes m i h = cc
describes Later bytes m i h = cc

ends : (fs : List Open) (k : Container) (m : Measured) → AllPlain fs → Stays (end_in fs k m)
ends [] k m h = tt
ends (f ∷ fs) k m h =
    either (not (holds_ m.frame.container k) || not (ltb m.frame.index (length m.sizes))) (Err InvalidValue)
    (if is_odd_map k m.frame.count then Err OddCount else (size_of m.frame >>= closed k m f fs)) tt
    (either (is_odd_map k m.frame.count) (Err OddCount) (size_of m.frame >>= closed k m f fs) tt
    (then_ (size_of m.frame) (closed k m f fs) (λ s.
    leaves (length (opening f.place k m.frame.count m.frame.content) + m.frame.content)
    (record { frame = f; outer = fs; sizes = set m.sizes m.frame.index s; descriptors = take m.frame.form m.descriptors }) h)))

ends_described : (fs : List Open) (m : Measured) → AllPlain fs → Stays (end_described_in fs m)
ends_described [] m h = tt
ends_described (f ∷ fs) m h =
    let inner : Measured = record { frame = record f { code = m.frame.code }; outer = fs; sizes = m.sizes; descriptors = m.descriptors } in
    either (is_none m.frame.container && eqb m.frame.count 1) (leave m.frame.content inner) (Err InvalidValue)
    (leaves m.frame.content inner h) tt

abbrev BeginsNone : Token → Type 0
BeginsNone (begin k) = ⊥
BeginsNone t = Unit {0}

stays : (t : Token) (m : Measured) → BeginsNone t → Plainly m → Stays (measure t m)
stays (put p) m b h = then_ (checked p) (λ _. measure_checked p m) (λ u. primitives p m h)
stays (keep bytes nesting) m b h = keeps m.frame.place (length bytes) nesting m h
stays (begin k) m b h = absurd b
stays (end k) m b h = ends m.outer k m h.1
stays (begin_described d) m b h =
    either (ltb 127 (length m.outer)) (Err Depth)
    (if is_full m.frame then Err InvalidValue
    else (checked (descriptor_value d) >>= λ _. describe_at m.frame.place (descriptor_bytes d) m)) tt
    (either (is_full m.frame) (Err InvalidValue) (checked (descriptor_value d) >>= λ _. describe_at m.frame.place (descriptor_bytes d) m) tt
    (then_ (checked (descriptor_value d)) (λ _. describe_at m.frame.place (descriptor_bytes d) m)
    (λ u. describes m.frame.place (descriptor_bytes d) m h.0 h)))
stays end_described m b h = ends_described m.outer m h.1
stays (refuse e) m b h = tt

abbrev PlainPass : Pass → Type 0
PlainPass (Measuring m) = Plainly m
PlainPass _ = Unit {0}

plain_pass : (r : Result Measured Error) → Stays r → PlainPass (measuring r)
plain_pass (Ok m) h = h
plain_pass (Err e) h = tt

plain_filled : (r : Result Filled Error) → PlainPass (filling r)
plain_filled (Ok f) = tt
plain_filled (Err e) = tt

next_plain : (s : Pass) (t : Token) → BeginsNone t → PlainPass s → PlainPass (step s t)
next_plain (Measuring m) t b h = plain_pass (measure t m) (stays t m b h)
next_plain (Filling f) t b h = plain_filled (fill t f)
next_plain (Stopped e) t b h = tt

plain_takes : (p : Place) (t : Token) → p ≡ Alone → BeginsNone t → TakesMemory p t → ⊥
plain_takes Alone (put x) i b h = h
plain_takes Alone (keep bytes nesting) i b h = h
plain_takes Alone (begin k) i b h = b
plain_takes Alone (end k) i b h = h
plain_takes Alone (begin_described d) i b h = h
plain_takes Alone end_described i b h = h
plain_takes Alone (refuse e) i b h = h
plain_takes First t i b h = cc
plain_takes Later t i b h = cc

not_now : (s : Pass) (t : Token) → BeginsNone t → PlainPass s → MayRunOut s t → ⊥
not_now (Measuring m) t b h k = plain_takes m.frame.place t h.0 b k.0
not_now (Filling f) t b h k = k
not_now (Stopped e) t b h k = k

abbrev AllBeginNone : List Token → Type 0
AllBeginNone [] = Unit {0}
AllBeginNone (t ∷ ts) = BeginsNone t × AllBeginNone ts

never : (s : Pass) (ts : List Token) → AllBeginNone ts → PlainPass s → AnyMayRunOut s ts → ⊥
unfolding AnyMayRunOut
never s [] b h k = k
never s (t ∷ ts) b h (inl k) = not_now s t b.0 h k
never s (t ∷ ts) b h (inr k) = never (step s t) ts b.1 (next_plain s t b.0 h) k

joined : (xs ys : List Token) → AllBeginNone xs → AllBeginNone ys → AllBeginNone (xs ++ ys)
joined [] ys h k = k
joined (x ∷ xs) ys h k = (h.0, joined xs ys h.1 k)

module _ (deep : List ℕ → ℕ) where
  of_term : (t : Term) → AllBeginNone (tokens deep t) ⊎ Somewhere IsContainer t
  of_term (leaf p) = inl (tt, tt)
  of_term (container k ts) = inr (inl tt)
  of_term (described d t) =
      elim (of_term t) [ inl h ↦ inl (tt, joined (tokens deep t) (end_described ∷ []) h (tt, tt)) | inr h ↦ inr (inr h) ]
  of_term (kept b) = inl (tt, tt)
  of_term (barred r) = inl (tt, tt)

  of_terms : (ts : List Term) → AllBeginNone (row_tokens deep ts) ⊎ HoldOthers ts
  of_terms [] = inl tt
  of_terms (t ∷ ts) =
      elim (of_term t) [
        | inr h ↦ inr (inl h)
        | inl h ↦ elim (of_terms ts) [ inr k ↦ inr (inr k) | inl k ↦ inl (joined (tokens deep t) (row_tokens deep ts) h k) ]
      ]

  -- where memory may run out, there is a list, a map or an array
  pub holds : (ts : List Term) → AnyMayRunOut (Measuring at_start) (row_tokens deep ts) → HoldOthers ts
  holds ts k = elim (of_terms ts) [ inl h ↦ absurd (never (Measuring at_start) (row_tokens deep ts) h (refl, tt) k) | inr h ↦ h ]
