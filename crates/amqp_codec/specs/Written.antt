-- What writing a value is, in the terms that it is written as.
use Rattle.std.specs.Prelude.{◌≡◌, ◌⊎◌, ℕ, ◌<◌, List, [], ◌∷◌, length, Result, Ok, Err}
use Rattle.amqp_model.specs.Term.{null, Term, Terms, Refusal, leaf, kept, count}
use Rattle.amqp_model.specs.Spelling.{IsSpelling}
use Rattle.amqp_model.specs.Measures.{nests}
use Rattle.amqp_model.specs.Ranges.{EverywhereIn, IsValue}
use Rattle.amqp_model.specs.Refusals.{SomewhereIn, IsRefused}
use Rattle.amqp_model.specs.Kept.{EachExpandsTo}
use Rattle.amqp_model.specs.Items.{terms_of}
use Rattle.amqp_wire.specs.declared.error.Error.{Error}
use Rattle.amqp_wire.specs.declared.error.Error.TheVariants.{Memory, Depth, TooLarge}
use Rattle.amqp_encoder.specs.State.{Encoder}
use Rattle.amqp_encoder.specs.State.{Stopped}
use Rattle.amqp_encoder.specs.declared.size.Size.{Size}
use Rattle.amqp_encoder.specs.Measuring.{MAX}
use Rattle.amqp_encoder.specs.Passes.{row_text, row_tokens, answer_of, IsMeasured}
use Rattle.amqp_encoder.specs.Reasons.{HasReason}
use Rattle.amqp_encoder.specs.Refused.{KnowDepths}
use Rattle.amqp_encoder.specs.Writes.{Writes, Fills, Follows, pass_of, bytes_of}

-- The type of a value ran out of memory of its own while it was measured, and refused the value for that. What was measured is filled in
-- whole.
pub record GivesUp (old : Encoder) (result : Result (Unit {0}) Error) (new : Encoder) : Type 0 where
  pub was_going : answer_of old ≡ Ok tt
  pub not_filled : Fills (pass_of old) → ⊥
  pub answer : result ≡ Err Memory
  pub state : pass_of new ≡ Stopped Memory
  pub kept : Follows (bytes_of old) (bytes_of new)

-- What an encoder fills was measured, so that nothing in it is refused.
abbrev pub AreFreeIfFilled : Encoder → List Term → Type 0
AreFreeIfFilled old ts = Fills (pass_of old) → (r : Refusal) → SomewhereIn (IsRefused r) (terms_of ts) → ⊥

-- The calls for the terms were made in their order, up to a refusal; or a type ran out of memory of its own.
pub record WritesTerms (ts : List Term) (old : Encoder) (result : Result (Unit {0}) Error) (new : Encoder) : Type 0 where
  pub calls : (deep : List ℕ → ℕ) → KnowDepths deep ts → AreFreeIfFilled old ts → Writes old (row_tokens deep ts) result new ⊎ GivesUp old result new

-- What a canonical term itself needs, its parts aside: a number or text of its type, a value for each key of a map;
-- and bytes that are kept spell a term.
abbrev pub IsProper : Term → Type 0
IsProper (kept b) = (t : Term) × IsSpelling b t
IsProper t = IsValue t

abbrev pub AreProper : List Term → Type 0
AreProper ts = EverywhereIn IsProper (terms_of ts)

-- they read as terms that nest deeper than 128
abbrev pub AreTooDeep : List Term → Type 0
AreTooDeep ts = (us : Terms) × EachExpandsTo (terms_of ts) us × (128 < nests us)

-- Why terms in a row aren't written: a term in them is refused for the reason, or they nest too deep,
-- or are too long or too many.
abbrev pub AreUnwritable : List Term → Error → Type 0
AreUnwritable ts e =
    SomewhereIn (HasReason e) (terms_of ts)
    ⊎ (((e ≡ Depth) × AreTooDeep ts) ⊎ ((e ≡ TooLarge) × ((MAX < length (row_text ts)) ⊎ (MAX < count (terms_of ts)))))

abbrev pub AreWritable : List Term → Type 0
AreWritable ts = (e : Error) → AreUnwritable ts e → ⊥

-- The terms can be written, and take so many bytes and these sizes.
abbrev pub AreMeasured : List Term → ℕ → List Size → Type 0
AreMeasured ts len sizes = (deep : List ℕ → ℕ) → KnowDepths deep ts → IsMeasured deep ts len sizes

-- How the values of a type are written.
pub record Writing (T : Type 0) : Type 1 where
  -- the canonical terms, one for each section
  pub canons : T → List Term
  -- a value of the type: its numbers are in their ranges, and so on
  pub is_value : T → Type 0
  -- each number and text in a value's canonical terms is of its type, and bytes that are kept spell a term
  pub proper : (v : T) → is_value v → AreProper (canons v)

-- The first of some terms, null where there is none.
abbrev pub first_term : List Term → Term
first_term [] = leaf null
first_term (t ∷ ts) = t

-- The canonical term of a value that is written as one, in which a refusal stands if the value has none.
abbrev pub canon_of : {T : Type 0} → Writing T → T → Term
canon_of w v = first_term (w.canons v)

-- Each value is written as one term.
abbrev pub IsOneTerm : {T : Type 0} → Writing T → Type 0
IsOneTerm {T} w = (v : T) → w.canons v ≡ canon_of w v ∷ []
