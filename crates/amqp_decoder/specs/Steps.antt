-- What the steps of a call promise.
use Rattle.std.specs.Prelude.{◌≡◌, ℕ, ◌<◌, ◌≤◌, ◌⊎◌, Bool, true, false, List, ◌++◌, length, drop, Option, Some, None, Result, Ok, Err}
use Rattle.amqp_wire.specs.declared.error.Error.{Error}
use Rattle.amqp_wire.specs.declared.error.Error.TheVariants.{Memory, Read, Cut, Size, Limit}
use Rattle.amqp_decoder.specs.State.{Course, State, refused_at, Has, bound_of, after_data, after_bytes, announced}

abbrev pub IsReadError : Error → Type 0
IsReadError (Read k) = Unit {0}
IsReadError _ = ⊥

-- It says nothing of bytes: memory was wanted, or the source has failed.
abbrev pub IsOutside : Error → Type 0
IsOutside Memory = Unit {0}
IsOutside (Read k) = Unit {0}
IsOutside _ = ⊥

-- The error is kept for each later call, and it is the source's where that began to fail.
pub record Answers (st : State) (e : Error) (st' : State) : Type 0 where
  pub error : st'.error ≡ Some e
  pub source : (st'.failed ≡ st.failed) ⊎ IsReadError e

-- An error is kept and answered by a decoder that has kept none.
abbrev pub RefusesBy : Error → State → Error → State → Type 0
RefusesBy error st e st' = st.error ≡ None → (e ≡ error) × (st' ≡ refused_at error st'.source.fault st)

-- The source has failed.
abbrev pub SourceFailed : Error → State → Type 0
SourceFailed e st = IsReadError e × (st.failed.broken ≡ true)

-- A growth was refused, where the call takes memory, or the source has failed.
abbrev pub IsExcused : Bool → Error → State → Type 0
IsExcused takes e st = ((takes ≡ true) × (e ≡ Memory)) ⊎ SourceFailed e st

-- These bytes stood next, and were taken, whatever container is open.
pub record Pulls (st : State) (s : List ℕ) (st' : State) : Type 0 where
  pub rest : st.rest ≡ s ++ drop (length s) st.rest
  pub moved : st' ≡ after_bytes (length s) st

-- Fewer than n bytes stood there, or memory to keep them was wanted where it is taken.
pub record Misses (takes : Bool) (n : ℕ) (st : State) (e : Error) (st' : State) : Type 0 where
  pub kept : Answers st e st'
  pub why : IsExcused takes e st' ⊎ ((e ≡ Cut) × (length st.rest < n))

-- These bytes of a value stood next, and were taken.
pub record Takes (st : State) (s : List ℕ) (st' : State) : Type 0 where
  pub room : Has st.top.left (length s)
  pub rest : st.rest ≡ s ++ drop (length s) st.rest
  pub moved : st' ≡ after_data (length s) st

-- Why n bytes of a value can't be taken. Where no container is open, they pass the limit, or the input ends in them; in one,
-- the input ends in what the open containers announce, or that is there, and the innermost container ends.
pub data Lacks (n : ℕ) (st : State) (e : Error) : Type 0 where
  cut_open : bound_of st.top ≡ None → Has st.top.left n → length st.rest < n → e ≡ Cut → Lacks n st e
  past_limit : bound_of st.top ≡ None → (Has st.top.left n → ⊥) → e ≡ Limit → Lacks n st e
  cut_inside : {l : ℕ} → bound_of st.top ≡ Some l → (l < n) ⊎ (length st.rest < n) → length st.rest < announced st → e ≡ Cut → Lacks n st e
  too_long : {l : ℕ} → bound_of st.top ≡ Some l → l < n → announced st ≤ length st.rest → e ≡ Size → Lacks n st e

-- n bytes of a value could not be taken.
pub record FallsShort (n : ℕ) (st : State) (e : Error) (st' : State) : Type 0 where
  pub kept : Answers st e st'
  pub why : SourceFailed e st' ⊎ Lacks n st e

-- How much has to be there before a size is refused: what the open containers announce, and where none is open what the
-- value itself still does, which is within the limit.
abbrev pub asked_in : Option ℕ → ℕ → ℕ → ℕ
asked_in None own all = own
asked_in (Some l) own all = all

abbrev pub asked : ℕ → State → ℕ
asked own st = asked_in (bound_of st.top) own (announced st)

abbrev pub IsWithinLimit : ℕ → State → Type 0
IsWithinLimit own st = bound_of st.top ≡ None → Has st.top.left own

-- The error for a wrong size.
pub data SizeError (own : ℕ) (st : State) (e : Error) : Type 0 where
  cut : IsWithinLimit own st → length st.rest < asked own st → e ≡ Cut → SizeError own st e
  wrong : IsWithinLimit own st → asked own st ≤ length st.rest → e ≡ Size → SizeError own st e
  past : bound_of st.top ≡ None → (Has st.top.left own → ⊥) → e ≡ Limit → SizeError own st e

-- The open container has no room for n bytes.
pub record NoRoom (n : ℕ) (st : State) (e : Error) : Type 0 where
  pub less : Has st.top.left n → ⊥
  pub why : SizeError n st e

-- A size was refused.
pub record RefusesSize (own : ℕ) (st : State) (e : Error) (st' : State) : Type 0 where
  pub kept : Answers st e st'
  pub why : SourceFailed e st' ⊎ SizeError own st e

-- The error is kept, and names a fault, unless it says of memory or of the source.
pub record Stops (takes : Bool) (fault : Error → Type 0) (st : State) (e : Error) (st' : State) : Type 0 where
  pub kept : Answers st e st'
  pub why : IsExcused takes e st' ⊎ fault e

-- A course but for the size, which a source that doesn't tell its bytes doesn't tell either.
abbrev pub unsized : Course → Course
unsized f = record f { size = 0 }

-- A call kept no error, and its source hasn't begun to fail.
abbrev pub GoesOn : State → State → Type 0
GoesOn st st' = (st'.error ≡ st.error) × (unsized st'.failed ≡ unsized st.failed)

-- A call kept the error that it answers: the source's where that began to fail and only where it has, want of memory only where the
-- call takes some, and a limit's only where the caller has set one.
abbrev pub Fails : Bool → State → Error → State → Type 0
Fails takes st e st' = (st'.error ≡ Some e) × ((unsized st'.failed ≡ unsized st.failed) ⊎ IsReadError e) × (e ≡ Memory → takes ≡ true)
    × (IsReadError e → st'.failed.broken ≡ true) × (e ≡ Limit → st'.failed.free ≡ false)

-- What a call does that is asked of a decoder that has kept no error, whatever its source tells.
abbrev pub Goes : {A : Type 0} → Bool → State → Result A Error → State → Type 0
Goes takes st (Ok v) st' = GoesOn st st'
Goes takes st (Err e) st' = Fails takes st e st'

-- A call was asked of a decoder that had kept no error, and went on.
abbrev pub Began : State → State → Type 0
Began st st' = (st.error ≡ None) × (st'.error ≡ None) × (unsized st'.failed ≡ unsized st.failed)

-- A call refused: by the error that was kept before, where nothing changes, or by one that it keeps.
abbrev pub Refused : Bool → State → Error → State → Type 0
Refused takes st e st' = ((d : Error) → st.error ≡ Some d → (d ≡ e) × (st' ≡ st)) × (st.error ≡ None → Fails takes st e st')

-- What a call does, whatever its source tells.
abbrev pub Tries : {A : Type 0} → Bool → State → Result A Error → State → Type 0
Tries takes st (Ok v) st' = Began st st'
Tries takes st (Err e) st' = Refused takes st e st'

-- What calls in a row did so far, of which there may be none.
abbrev pub Passed : State → State → Type 0
Passed st st' = GoesOn st st' × ((d : Error) → st.error ≡ Some d → st' ≡ st)

-- What a row of calls does, which may be empty, whatever its source tells.
abbrev pub Passes : {A : Type 0} → Bool → State → Result A Error → State → Type 0
Passes takes st (Ok v) st' = Passed st st'
Passes takes st (Err e) st' = Refused takes st e st'
