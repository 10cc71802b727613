-- How limits of the caller bound what is read at the top level, which is a row of terms (Part 1, section 1.2).
use Rattle.std.specs.Prelude.{◌≡◌, ℕ, ◌≤◌, Bool, true, false, List, [], ◌++◌, length, Option, None}
use Rattle.amqp_model.specs.Term.{Terms}
use Rattle.amqp_model.specs.Spelling.{AreItemsOf}
use Rattle.amqp_model.specs.Measures.{nests, weights}
use Rattle.amqp_wire.specs.declared.limits.Limits.{Limits}
use Rattle.amqp_wire.specs.Limits.{limit_of}
use Rattle.amqp_decoder.specs.State.{State, Has, lower, top_level}
use Rattle.amqp_decoder.specs.Within.{limited}
use Rattle.amqp_codec.specs.Reading.{Reading}

-- The bytes are a row of terms, each of which nests no deeper than the limits say, and all of which weigh no more together.
pub record AreAllowed (limits : Limits) (bytes : List ℕ) : Type 0 where
  pub terms : Terms
  pub spelled : AreItemsOf terms bytes
  pub nested : nests terms ≤ limits.nesting
  pub few : Has (limit_of limits.items) (weights terms false)

-- Values may nest so deep, so many bytes are left, and so much weight: the terms, which have n bytes, don't pass that.
abbrev pub HasRoom : ℕ → Option ℕ → Option ℕ → ℕ → Terms → Type 0
HasRoom nesting left quota n terms = (nests terms ≤ nesting) × Has left n × Has quota (weights terms false)

-- The same decoder within other limits, which bound nothing if it is free.
abbrev pub limited_to : Bool → ℕ → Option ℕ → Option ℕ → State → State
limited_to free nesting left quota st = record (limited nesting left quota st) { failed = record st.failed { free = free } }

-- The same decoder without limits.
abbrev pub without_limits : State → State
without_limits st = limited_to true 128 None None st

-- A decoder at the top level, which has refused nothing.
pub record IsFresh (st : State) : Type 0 where
  pub error : st.error ≡ None
  pub limit : Option ℕ
  pub top : st.top ≡ top_level limit
  pub saved : st.saved ≡ []
  pub nesting : st.nesting ≤ 128
  pub among : st.failed.alone ≡ false

-- From the one state to the other a row of terms was taken, within the limits; and within all limits that have room for them the same
-- is read.
pub record TakesRow (reads : State → State → Type 0) (st b : State) : Type 0 where
  pub bytes : List ℕ
  pub terms : Terms
  pub rest : st.rest ≡ bytes ++ b.rest
  pub spelled : AreItemsOf terms bytes
  pub room : HasRoom st.nesting st.top.left st.quota (length bytes) terms
  pub left : b.top.left ≡ lower st.top.left (length bytes)
  pub quota : b.quota ≡ lower st.quota (weights terms false)
  pub within : (free : Bool) (nesting : ℕ) (left quota : Option ℕ) → HasRoom nesting left quota (length bytes) terms
      → reads (limited_to free nesting left quota st)
      (limited_to free nesting (lower left (length bytes)) (lower quota (weights terms false)) b)

-- What is read at the top level is such a row.
abbrev pub IsBoundByLimits : {T : Type 0} → Reading T → Type 0
IsBoundByLimits {T} r =
    (st : State) (v : T) (b : State) → IsFresh st → r.reads st v b → TakesRow (λ first last. r.reads first v last) st b
