-- Where in the input a call refuses.
use Rattle.std.specs.Prelude.{◌≡◌, ◌⊎◌, ◌+◌, ◌%◌, ◌^◌, ℕ, Bool, length, Some, None, Result, Ok, Err}
use Rattle.amqp_wire.specs.declared.error.Error.{Error}
use Rattle.amqp_decoder.specs.State.{State, IsPlaceOf}
use Rattle.amqp_decoder.specs.Steps.{Answers, IsExcused}

-- Where a call begins; if the decoder has refused, where that was.
pub record Starts (place : ℕ) (st : State) : Type 0 where
  pub here : st.error ≡ None → IsPlaceOf place st
  pub kept : (e : Error) → st.error ≡ Some e → st.source.fault ≡ place

-- What a call refuses that began there stands there.
abbrev pub placed : {A : Type 0} → ℕ → Result A Error → State → State
placed place (Ok v) st = st
placed place (Err e) st = record st { source = record st.source { fault = place } }

-- A call that refuses where it began.
abbrev pub StandsHere : State → State → Type 0
StandsHere st st' = st.error ≡ None → IsPlaceOf st'.source.fault st

-- An error, and how many bytes of the input are left from its place on.
pub record Located : Type 0 where
  pub error : Error
  pub left : ℕ

-- What stands there is at fault.
abbrev pub Here : (State → Error → Type 0) → State → Located → Type 0
Here fault st f = fault st f.error × (f.left ≡ length st.rest)

-- What is at fault stands as far from the end as it is said of the fault.
abbrev pub At : {fault : State → Error → Type 0} → ((st : State) (e : Error) → fault st e → ℕ) → State → Located → Type 0
At {fault} left st f = (h : fault st f.error) × (f.left ≡ left st f.error h)

-- The decoder refused so many bytes in front of the end of its input.
abbrev pub StandsBefore : ℕ → State → State → Type 0
StandsBefore left st st' = (st'.source.fault + left) % 2 ^ 64 ≡ st.failed.size

-- The error is that of a fault, and the decoder refused at its place.
abbrev pub IsPlaced : (Located → Type 0) → State → Error → State → Type 0
IsPlaced fault st e st' = (left : ℕ) × fault (record { error = e; left = left }) × StandsBefore left st st'

-- The error is kept, and names a fault at its place, unless it says of memory or of the source.
pub record StopsAt (takes : Bool) (fault : Located → Type 0) (st : State) (e : Error) (st' : State) : Type 0 where
  pub kept : Answers st e st'
  pub why : IsExcused takes e st' ⊎ IsPlaced fault st e st'

-- Nothing that could be read stands there, and the error, which names a fault that does, at its place, is kept for each later call.
-- takes: the call takes memory, and may want it
pub record RefusesAt {A : Type 0} (takes : Bool) (reads : State → A → State → Type 0) (fault : State → Located → Type 0) (old : State)
    (e : Error) (new : State) : Type 0 where
  pub kept : Answers old e new
  pub again : (d : Error) → old.error ≡ Some d → (d ≡ e) × (new ≡ old)
  pub named : old.error ≡ None → IsExcused takes e new ⊎ IsPlaced (fault old) old e new
  pub none : IsExcused takes e new ⊎ ((v : A) (st : State) → reads old v st → ⊥)

-- Ok of what stands next, or the reason why nothing does, and its place.
abbrev pub AnswersAt : {A : Type 0} → Bool → (State → A → State → Type 0) → (State → Located → Type 0) → State
    → Result A Error → State → Type 0
AnswersAt takes reads fault old (Ok v) new = reads old v new
AnswersAt takes reads fault old (Err e) new = RefusesAt takes reads fault old e new
