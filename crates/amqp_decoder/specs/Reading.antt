-- What a call that reads promises.
use Rattle.std.specs.Prelude.{◌≡◌, ℕ, ◌⊎◌, Bool, List, [], ◌∷◌, ◌++◌, length, drop, Option, Some, None, Result, Ok, Err}
use Rattle.amqp_model.specs.Term.{Descriptor}
use Rattle.amqp_wire.specs.declared.error.Error.{Error}
use Rattle.amqp_wire.specs.declared.error.Error.TheVariants.{Missing, Limit}
use Rattle.amqp_decoder.specs.State.{State, Has, after_look, after_value, counted_in, uncounted}
use Rattle.amqp_decoder.specs.Steps.{Answers, IsExcused, Lacks}

-- Nothing that could be read stands there, and the error, which names a fault that does, is kept for each later call.
-- takes: the call takes memory, and may want it
pub record RefusesRead {A : Type 0} (takes : Bool) (reads : State → A → State → Type 0) (fault : State → Error → Type 0) (old : State)
    (e : Error) (new : State) : Type 0 where
  pub kept : Answers old e new
  pub again : (d : Error) → old.error ≡ Some d → (d ≡ e) × (new ≡ old)
  pub named : old.error ≡ None → IsExcused takes e new ⊎ fault old e
  pub none : IsExcused takes e new ⊎ ((v : A) (st : State) → reads old v st → ⊥)

-- Ok of what stands next, or the reason why nothing does.
abbrev pub AnswersRead : {A : Type 0} → Bool → (State → A → State → Type 0) → (State → Error → Type 0) → State
    → Result A Error → State → Type 0
AnswersRead takes reads fault old (Ok v) new = reads old v new
AnswersRead takes reads fault old (Err e) new = RefusesRead takes reads fault old e new

-- A value is left.
pub record IsLeft (st : State) (v : Unit {0}) (st' : State) : Type 0 where
  pub going : st.error ≡ None
  pub item : Has st.top.items 1
  pub kept : st' ≡ st

-- A value's first code, and its bytes in front: the code itself, or none where the constructor is shared.
abbrev pub IsFirst : Option (List Descriptor × ℕ) → ℕ → List ℕ → Type 0
IsFirst None c own = own ≡ c ∷ []
IsFirst (Some ([], k)) c own = (own ≡ []) × (c ≡ k)
IsFirst (Some (d ∷ ds, k)) c own = (own ≡ []) × (c ≡ 0)

abbrev pub IsFirstShared : Option (List Descriptor × ℕ) → ℕ → Type 0
IsFirstShared None c = ⊥
IsFirstShared (Some ([], k)) c = c ≡ k
IsFirstShared (Some (d ∷ ds, k)) c = c ≡ 0

-- The first code of a value stood next.
pub record ReadsCode (st : State) (c : ℕ) (st' : State) : Type 0 where
  pub going : st.error ≡ None
  pub item : Has st.top.items 1
  pub own : List ℕ
  pub first : IsFirst st.top.shared c own
  pub room : Has st.top.left (length own)
  pub rest : st.rest ≡ own ++ drop (length own) st.rest
  pub few : Has st.quota (counted_in st.top.shared c)
  pub moved : st' ≡ after_value (length own) (counted_in st.top.shared c) st

-- Why no value begins: none is left, or one is, and its first code can't be taken, or is there, and what begins by it weighs too
-- much.
pub data BeginFault (st : State) (e : Error) : Type 0 where
  missing : st.top.items ≡ Some 0 → e ≡ Missing → BeginFault st e
  no_code : Has st.top.items 1 → st.top.shared ≡ None → Lacks 1 st e → BeginFault st e
  one_too_many : {c : ℕ} {m : State} → ReadsCode (uncounted st) c m → (Has st.quota (counted_in st.top.shared c) → ⊥) → e ≡ Limit
      → BeginFault st e

-- The next value's first code was looked at, where no constructor is shared.
abbrev pub after_peek : Option (List Descriptor × ℕ) → State → State
after_peek None st = after_look 1 st
after_peek (Some c) st = st

-- The next value begins by this code, and nothing is taken.
pub record PeeksCode (st : State) (c : ℕ) (st' : State) : Type 0 where
  pub after : State
  pub begun : ReadsCode st c after
  pub kept : st' ≡ after_peek st.top.shared st
