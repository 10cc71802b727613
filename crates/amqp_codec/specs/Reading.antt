-- What it is to read a value of a type: from which state of a decoder, and what state is left.
use Rattle.std.proofs.Common.{◌≡◌, ℕ, ◌+◌, ◌%◌, ◌^◌, ◌≤◌, Bool, true, false, List, ◌++◌, length, drop, Option, None, ◌-◌}
use Rattle.amqp_model.specs.Term.{Term}
use Rattle.amqp_model.specs.Spelling.{IsSpelling}
use Rattle.amqp_model.specs.Measures.{nest, weight}
use Rattle.amqp_wire.specs.declared.error.Error.{Error}
use Rattle.amqp_wire.specs.declared.limits.Limits.{Limits}
use Rattle.amqp_wire.specs.Limits.{unlimited, limit_of}
use Rattle.amqp_decoder.specs.State.{Source, State, Has, top_level, started}
pub use Rattle.amqp_decoder.specs.State.{greatest}
use Rattle.amqp_decoder.specs.OtherSource.{elsewhere, IsByDepth}
use Rattle.amqp_decoder.specs.Misspelled.{IsMisspelling}
use Rattle.amqp_decoder.specs.Steps.{IsOutside}
use Rattle.amqp_decoder.specs.Places.{Located}

-- The bytes in front were taken, and none behind them from the source, unless the type looks on.
pub record Taken (looks_on : Bool) (st : State) (b : State) : Type 0 where
  pub count : ℕ
  pub within : count ≤ length st.rest
  pub rest : b.rest ≡ drop count st.rest
  pub ahead : looks_on ≡ false → b.ahead ≡ st.ahead - count

-- It stands where it stood: in the same containers, before the same source, which didn't begin to fail, and with the same
-- error, or none.
pub record Stays (st : State) (b : State) : Type 0 where
  pub error : b.error ≡ st.error
  pub place : b.top.place ≡ st.top.place
  pub shared : b.top.shared ≡ st.top.shared
  pub saved : b.saved ≡ st.saved
  pub nesting : b.nesting ≡ st.nesting
  pub source : b.source ≡ st.source
  pub sound : b.failed ≡ st.failed
  pub top : (l : Option ℕ) → st.top ≡ top_level l → (m : Option ℕ) × (b.top ≡ top_level m)

-- Whether one term is read alone.
abbrev pub apart : Bool → State → State
apart alone st = record st { failed = record st.failed { alone = alone } }

-- So many of the next bytes were looked at.
abbrev pub looking : ℕ → State → State
looking n st = record st { ahead = n }

-- The two differ at most in how far was looked.
abbrev pub AreAlike : State → State → Type 0
AreAlike a b = b ≡ looking b.ahead a

-- A decoder at the start of an input, within limits on how deep values nest, how many bytes they have and how many they are.
abbrev pub start_within : Limits → List ℕ → State
start_within limits input = started input 0 false false limits

-- They are these three numbers, whatever their seed.
abbrev pub IsGreatest : Limits → Type 0
IsGreatest limits = (limits.nesting ≡ 128) × (limits.bytes ≡ unlimited) × (limits.items ≡ unlimited)

-- A decoder at the start of an input.
abbrev pub start : List ℕ → State
start input = start_within greatest input

-- No front of the input is a term; if the error is a limit's or `Depth`, none that has no more bytes, nests no deeper and weighs no
-- more than the limits say.
abbrev pub IsUnspelledWithin : Limits → Error → List ℕ → Type 0
IsUnspelledWithin limits e input =
    (b more : List ℕ) (t : Term) → input ≡ b ++ more → IsSpelling b t
    → (IsByDepth e → Has (limit_of limits.bytes) (length b) × (nest t ≤ limits.nesting) × Has (limit_of limits.items) (weight t false)) → ⊥

-- No front of the input is a term; if the error is a limit's or `Depth`, none that nests at most 128 deep.
abbrev pub IsUnspelled : Error → List ℕ → Type 0
IsUnspelled e input = (b more : List ℕ) (t : Term) → input ≡ b ++ more → IsSpelling b t → (IsByDepth e → nest t ≤ 128) → ⊥

pub record Reading (T : Type 0) : Type 1 where
  -- the two differ at most in where they lie in memory
  pub same : T → T → Type 0
  -- from the first state the value is read, and the second is left
  pub reads : State → T → State → Type 0
  -- the error names a fault that stands there, at its place; it is neither want of memory nor the source's
  pub fault : State → Located → Type 0
  pub not_outside : (e : Located) → IsOutside e.error → (st : State) → fault st e → ⊥
  -- reading it takes memory
  pub takes_memory : Bool
  -- the values in it
  pub count : T → ℕ
  -- what follows a value may have been looked at
  pub looks_on : Bool
  -- it is one term
  pub one_term : Bool
  pub same_sym : (v w : T) → same v w → same w v
  pub same_trans : (v w x : T) → same v w → same w x → same v x
  pub one : (st : State) (v w : T) (a b : State) → reads st v a → reads st w b → same v w × AreAlike a b
  pub going : (st : State) (v : T) (b : State) → reads st v b → st.error ≡ None
  pub counted : (st : State) (v : T) (b : State) → st.top.shared ≡ None → reads st v b → count v + length b.rest ≤ length st.rest
  pub taken : (st : State) (v : T) (b : State) → reads st v b → Taken looks_on st b
  pub stays : (st : State) (v : T) (b : State) → reads st v b → Stays st b
  -- an error that says of bytes that they are no term is named only of such
  pub misspelled : one_term ≡ true → (limits : Limits) (input : List ℕ) (e : Located) → IsMisspelling e.error
      → fault (start_within limits input) e → IsUnspelledWithin limits e.error input
  -- it stands in what is before the decoder, or at the end of that
  pub within : (st : State) (e : Located) → fault st e → e.left ≤ length st.rest
  -- it doesn't hang on how far was looked
  pub looked : (n : ℕ) (st : State) (v : T) (b : State) → reads st v b → (m : ℕ) × reads (looking n st) v (looking m b)
  -- it doesn't hang on the source
  pub reads_elsewhere : (source : Source) (failed : Bool) (st : State) (v : T) (b : State) → reads st v b
      → reads (elsewhere source failed st) v (elsewhere source failed b)
  pub fault_elsewhere : (source : Source) (failed : Bool) (st : State) (e : Located) → fault st e → fault (elsewhere source failed st) e
  -- a type of terms looks at nothing behind one, so it is the same where one term is read alone
  pub reads_alone : one_term ≡ true → (alone : Bool) (st : State) (v : T) (b : State) → reads st v b → reads (apart alone st) v (apart alone b)
  pub fault_alone : one_term ≡ true → (alone : Bool) (st : State) (e : Located) → fault st e → fault (apart alone st) e

-- Within the limits, the input begins with n bytes that are read as the value.
pub record BeginsWithin {T : Type 0} (limits : Limits) (r : Reading T) (input : List ℕ) (v : T) (n : ℕ) : Type 0 where
  pub after : State
  pub read : r.reads (start_within limits input) v after
  pub left : length after.rest + n ≡ length input

-- Within the limits, the input begins with no value, and has the fault.
pub record IsUnreadableWithin {T : Type 0} (limits : Limits) (r : Reading T) (input : List ℕ) (e : Error) : Type 0 where
  -- so many bytes are left from its place on
  pub left : ℕ
  pub fault : r.fault (start_within limits input) (record { error = e; left = left })
  pub none : (v : T) (n : ℕ) → BeginsWithin limits r input v n → ⊥
  -- of a type of terms: the error says that no term stands there only where none does
  pub unspelled : r.one_term ≡ true → IsMisspelling e → IsUnspelledWithin limits e input

-- Within the limits, the input has the fault, and so many of its bytes, as a number of 64 bits, are before the place of it.
abbrev pub HasFaultAt : {T : Type 0} → Limits → Reading T → List ℕ → Error → ℕ → Type 0
HasFaultAt limits r input e at =
    (left : ℕ) × r.fault (start_within limits input) (record { error = e; left = left })
    × ((at + left) % 2 ^ 64 ≡ length input % 2 ^ 64)

-- Within the limits, the input has the fault, and so many of its bytes are before the place of it.
abbrev pub IsFaultyAt : {T : Type 0} → Limits → Reading T → List ℕ → Error → ℕ → Type 0
IsFaultyAt limits r input e at =
    (left : ℕ) × r.fault (start_within limits input) (record { error = e; left = left }) × (at + left ≡ length input)

-- The input begins with n bytes that are read as the value.
abbrev pub BeginsWith : {T : Type 0} → Reading T → List ℕ → T → ℕ → Type 0
BeginsWith r input v n = BeginsWithin greatest r input v n

-- Within the limits nothing is read that isn't read without.
abbrev pub ReadsNoMore : {T : Type 0} → Limits → Reading T → Type 0
ReadsNoMore {T} limits r = (input : List ℕ) (v : T) (n : ℕ) → BeginsWithin limits r input v n → BeginsWith r input v n

-- The input begins with no value, and has the fault.
pub record IsUnreadable {T : Type 0} (r : Reading T) (input : List ℕ) (e : Error) : Type 0 where
  -- so many bytes are left from its place on
  pub left : ℕ
  pub fault : r.fault (start input) (record { error = e; left = left })
  pub none : (v : T) (n : ℕ) → BeginsWith r input v n → ⊥
  -- of a type of terms: the error says that no term stands there only where none does
  pub unspelled : r.one_term ≡ true → IsMisspelling e → IsUnspelled e input
