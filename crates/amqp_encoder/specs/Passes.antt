-- Whole passes over some terms in a row, as the sections of a message are.
use Rattle.std.specs.Prelude.{◌≡◌, ◌≤◌, ◌⊎◌, ℕ, List, length, map, flat_map, Result, Ok, Err}
use Rattle.amqp_model.specs.Term.{Refusal, Term, container}
use Rattle.amqp_model.specs.Items.{terms_of}
use Rattle.amqp_model.specs.Text.{Alone, texts, all_sizes}
use Rattle.amqp_model.specs.Ranges.{EverywhereIn, IsValue}
use Rattle.amqp_model.specs.Refusals.{SomewhereIn, IsRefused}
use Rattle.amqp_wire.specs.declared.error.Error.{Error}
use Rattle.amqp_wire.specs.declared.error.Error.TheVariants.{InvalidValue}
use Rattle.amqp_encoder.specs.declared.size.Size.{Size}
use Rattle.amqp_encoder.specs.State.{Measuring, Filling, Encoder}
use Rattle.amqp_encoder.specs.Tokens.{Token, tokens}
use Rattle.amqp_encoder.specs.State.{at_start, to_fill}
use Rattle.amqp_encoder.specs.Sound.{AreSound, all_levels}
use Rattle.amqp_encoder.specs.Reasons.{nests_by, RowRefused}
use Rattle.amqp_encoder.specs.Writes.{outcome, pass_of, loan_of, Found}

-- the bytes of the terms, one after another
abbrev pub row_text : List Term → List ℕ
row_text ts = texts (terms_of ts) Alone

-- the calls that write them, where kept bytes nest so deep
abbrev pub row_tokens : (List ℕ → ℕ) → List Term → List Token
row_tokens deep ts = flat_map (tokens deep) ts

-- the numbers and texts in them are of their types, and their maps have a value for each key
abbrev pub AreValues : List Term → Type 0
AreValues ts = EverywhereIn IsValue (terms_of ts)

-- it is a list, a map or an array
abbrev pub IsContainer : Term → Type 0
IsContainer (container k ts) = Unit {0}
IsContainer _ = ⊥

abbrev pub HoldOthers : List Term → Type 0
HoldOthers ts = SomewhereIn IsContainer (terms_of ts)

-- why they aren't written
abbrev pub AreRefused : (List ℕ → ℕ) → List Term → Error → Type 0
AreRefused deep ts e = RowRefused deep (terms_of ts) e

-- the bytes and the number of the items of a container
abbrev pub as_size : ℕ × ℕ → Size
as_size s = record { content = s.0; count = s.1 }

-- The terms take so many bytes, and these sizes, and nothing refuses them.
pub record IsMeasured (deep : List ℕ → ℕ) (ts : List Term) (len : ℕ) (sizes : List Size) : Type 0 where
  pub exact : len ≡ length (row_text ts)
  pub kept : sizes ≡ map as_size (all_sizes (terms_of ts))
  pub fits : AreSound (terms_of ts) Alone
  pub levels : all_levels (terms_of ts) ≤ 129
  pub nested : nests_by deep (terms_of ts) ≤ 128
  pub free : (r : Refusal) → SomewhereIn (IsRefused r) (terms_of ts) → ⊥
  pub unrefused : (e : Error) → AreRefused deep ts e → ⊥

-- what an encoder answers from here on
abbrev pub answer_of : Encoder → Result (Unit {0}) Error
answer_of e = outcome (pass_of e)

abbrev pub BeginsMeasuring : Encoder → Type 0
BeginsMeasuring e = pass_of e ≡ Measuring at_start

abbrev pub BeginsFilling : Encoder → List Size → List ℕ → ℕ → Type 0
BeginsFilling e sizes out limit = pass_of e ≡ Filling (to_fill sizes out limit (loan_of e))

-- nothing is open, and this is the length, and these are the sizes
abbrev pub Finds : Encoder → ℕ → List Size → Type 0
Finds e len sizes = Found (pass_of e) len sizes

-- why it has found nothing: its refusal; or it has refused nothing, but it fills, or something is open
abbrev pub FindsNone : Encoder → Error → Type 0
FindsNone s e =
    (answer_of s ≡ Err e) ⊎ ((e ≡ InvalidValue) × ((len : ℕ) (sizes : List Size) → Finds s len sizes → ⊥) × (answer_of s ≡ Ok tt))
