-- How the items of a list or an array are read, one after another.
use Rattle.std.specs.Prelude.{◌≡◌, ℕ, ◌<◌, ◌≤◌, List, [], ◌∷◌, length, Some, None}
use Rattle.amqp_model.specs.Term.{Container, Term, Terms, container}
use Rattle.amqp_model.specs.Items.{items_of}
use Rattle.amqp_model.specs.Standing.{Standing}
use Rattle.amqp_wire.specs.declared.error.Error.{Error}
use Rattle.amqp_decoder.specs.State.{State}
use Rattle.amqp_decoder.specs.OtherSource.{Setting, under, KeepsError}
use Rattle.amqp_decoder.specs.Rooms.{HasRoom}
use Rattle.amqp_decoder.specs.Misspelled.{IsMisspelling, NothingStands}
use Rattle.amqp_decoder.specs.Primitives.{ReadsValue}
use Rattle.amqp_decoder.specs.Containers.{place_of, Closes, CloseFault}
use Rattle.amqp_decoder.specs.Items.{Next, NextWithParts, Row, row_standings}
use Rattle.amqp_decoder.specs.Steps.{IsOutside}
use Rattle.amqp_decoder.specs.Places.{Located, Here}
use Rattle.amqp_codec.specs.Each.{IsListOrArray}

-- The values were read one after another.
abbrev pub ReadsEach : {T : Type 0} → (State → T → State → Type 0) → State → List T → State → Type 0
ReadsEach reads st [] b = b ≡ st
ReadsEach reads st (v ∷ vs) b = (mid : State) × reads st v mid × ReadsEach reads mid vs b

-- So many values were read one after another.
pub record ReadsRow {T : Type 0} (n : ℕ) (means : Standing → Term → T → Type 0) (st : State) (vs : List T) (b : State) : Type 0 where
  pub long : length vs ≡ n
  pub each : ReadsEach (ReadsValue means) st vs b

-- Why so many aren't read: behind fewer that are, the next one isn't.
pub record RowFault {T : Type 0} (n : ℕ) (means : Standing → Term → T → Type 0) (fault : State → Located → Type 0) (st : State)
    (e : Located) : Type 0 where
  pub before : List T
  pub mid : State
  pub each : ReadsEach (ReadsValue means) st before mid
  pub fewer : length before < n
  pub named : fault mid e

-- A container of this kind was opened, these terms were taken in it, and it was closed.
pub record Held (kind : Container) (opens : State → ℕ → State → Type 0) (st : State) (ts : List Term) (st' : State) : Type 0 where
  pub count : ℕ
  pub first : State
  pub opened : opens st count first
  pub bytes : List ℕ
  pub last : State
  pub row : Row first ts bytes last
  pub closed : Closes (place_of kind) last st'

-- How a list or an array is opened: what the call that opens it says, and the laws of that.
pub record Opening : Type 1 where
  pub kind : Container
  pub is_list_or_array : IsListOrArray kind
  -- one of so many items was opened; or why none is
  pub opens : State → ℕ → State → Type 0
  pub fault : State → Located → Type 0
  -- where this holds, one that stands there can be opened
  pub fits : State → Type 0
  -- the laws: it is opened in one way, where nothing was refused and without a failure of the source
  pub one : (st : State) (n m : ℕ) (a b : State) → opens st n a → opens st m b → (n ≡ m) × (a ≡ b)
  pub was_going : (st : State) (n : ℕ) (first : State) → opens st n first → st.error ≡ None
  pub going : (st : State) (n : ℕ) (first : State) → opens st n first → first.error ≡ None
  pub sound : (st : State) (n : ℕ) (first : State) → opens st n first → first.failed ≡ st.failed
  pub items : (st : State) (n : ℕ) (first : State) → opens st n first → first.top.items ≡ Some n
  pub room_inside : (st : State) (n : ℕ) (first : State) → opens st n first → HasRoom first
  -- what is opened, taken and closed is a term that stood there with its items as its parts; and the other way round
  pub taken : (st : State) (ts : Terms) (st' : State) (h : Held kind opens st (items_of ts) st')
      → NextWithParts st (container kind ts) (row_standings h.first (items_of ts) h.bytes h.last h.row) st'
  pub held : (st : State) (ts : Terms) (st' : State) → fits st → Next st (container kind ts) st' → Held kind opens st (items_of ts) st'
  -- of the faults, of another source and of what is no term
  pub not_outside : (e : Located) → IsOutside e.error → (st : State) → fault st e → ⊥
  pub opens_elsewhere : (c : Setting) (st : State) (n : ℕ) (first : State) → opens st n first → opens (under c st) n (under c first)
  pub fault_elsewhere : (c : Setting) (st : State) (e : Located) → KeepsError c e.error → fault st e → fault (under c st) e
  pub misspelled : (st : State) (e : Located) → HasRoom st → IsMisspelling e.error → fault st e → NothingStands st
  pub within : (st : State) (e : Located) → fault st e → e.left ≤ length st.rest
  pub shrinks : (st : State) (n : ℕ) (first : State) → opens st n first → length first.rest ≤ length st.rest
  pub nothing_in : (st : State) (n : ℕ) (first mid : State) (ts : List Term) (b : List ℕ) → HasRoom st → opens st n first
      → Row first ts b mid → length ts < n → NothingStands mid → NothingStands st
  pub nothing_at_end : (st : State) (n : ℕ) (first last : State) (ts : List Term) (b : List ℕ) (e : Error) → HasRoom st → opens st n first
      → Row first ts b last → IsMisspelling e → CloseFault (place_of kind) last e → NothingStands st

-- It was opened, its items are the values, and it was closed.
pub record ItemsRead {T : Type 0} (o : Opening) (means : Standing → Term → T → Type 0) (st : State) (vs : List T) (b : State) : Type 0 where
  pub count : ℕ
  pub first : State
  pub opened : o.opens st count first
  pub last : State
  pub row : ReadsRow count means first vs last
  pub closed : Closes (place_of o.kind) last b

-- Why its items aren't read: it isn't opened; or an item isn't read behind those that are; or it isn't closed behind them all.
pub data ItemsFault {T : Type 0} (o : Opening) (means : Standing → Term → T → Type 0) (fault : State → Located → Type 0) (st : State)
    (e : Located) : Type 0 where
  unopened : o.fault st e → ItemsFault o means fault st e
  at_item : {n : ℕ} {first : State} → o.opens st n first → RowFault n means fault first e → ItemsFault o means fault st e
  unclosed : {n : ℕ} {first : State} {vs : List T} {last : State} → o.opens st n first → ReadsRow n means first vs last
      → Here (CloseFault (place_of o.kind)) last e → ItemsFault o means fault st e
