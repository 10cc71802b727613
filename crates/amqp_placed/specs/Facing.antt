-- Where a decoder stands in its input, and that a fault of what it reads there is one over bytes alone.
use Rattle.std.specs.Prelude.{◌≡◌, ℕ, zero, ◌+◌, ◌<◌, ◌≤◌, ◌⊎◌, List, length, take, Option, Some, None}
use Rattle.amqp_model.specs.Term.{Descriptor}
use Rattle.amqp_model.specs.Constructors.{format}
use Rattle.amqp_model.specs.Spelling.{IsKnown}
use Rattle.amqp_wire.specs.declared.error.Error.{Error}
use Rattle.amqp_lengths.specs.Stands.{Piece, an_element, Around, unbounded, whole_one, cut_one, IsOwn, IsEnd, StandsFrom}
use Rattle.amqp_decoder.specs.State.{State, bound_of, bytes_left, announced}
use Rattle.amqp_decoder.specs.Rooms.{HasFlatItems, HasRoom}
use Rattle.amqp_decoder.specs.Places.{Located}

-- The bytes up to a bound, as far as they are there.
abbrev pub up_to : Option ℕ → List ℕ → List ℕ
up_to None r = r
up_to (Some n) r = take n r

-- The bytes that are left of the open container, or else of the input, as far as they are there.
abbrev pub bytes_open : State → List ℕ
bytes_open st = up_to (bound_of st.top) st.rest

-- No container is open, or all is there that those announce that are, or not.
abbrev pub IsAround : Around → State → Type 0
IsAround unbounded st = (bound_of st.top ≡ None) × (bytes_left st.saved ≡ 0)
IsAround whole_one st = (n : ℕ) × (bound_of st.top ≡ Some n) × (announced st ≤ length st.rest)
IsAround cut_one st = (n : ℕ) × (bound_of st.top ≡ Some n) × (length st.rest < announced st)

-- It has a constructor of its own, or shares that of an array's items.
abbrev pub IsUnderShared : Option (List Descriptor × ℕ) → Piece → Type 0
IsUnderShared None P = IsOwn P
IsUnderShared (Some (ds, c)) P = (n i : ℕ) × (P ≡ an_element ds c n i) × IsKnown (format c)

-- A value comes next, or the end of a container of which no item is left.
abbrev pub IsNext : Option ℕ → Option (List Descriptor × ℕ) → Piece → Type 0
IsNext (Some zero) shared P = IsEnd P
IsNext left shared P = IsUnderShared shared P

-- A decoder within no limits of the caller stands where this has to begin, in so many values that count in nesting.
pub record Faces (st : State) (P : Piece) (d : ℕ) (around : Around) : Type 0 where
  pub nesting : st.nesting ≡ 128
  pub uncounted : st.quota ≡ None
  pub unlimited : bound_of st.top ≡ None → st.top.left ≡ None
  pub room : HasRoom st
  pub next : IsNext st.top.items st.top.shared P
  pub is_around : IsAround around st
  pub deep : HasFlatItems st.top.shared ⊎ ((st.top.items ≡ Some 0) ⊎ (length st.saved ≤ d))

-- What stands at the place of the fault is at fault.
pub record Shows (st : State) (f : Located) (P : Piece) (d : ℕ) (around : Around) : Type 0 where
  pub left : ℕ
  pub place : f.left + length (bytes_open st) ≡ left + length st.rest
  pub stands : StandsFrom around P d (bytes_open st) f.error left

-- Wherever a decoder stands so, the fault is shown by bytes alone.
abbrev pub IsShown : State → Located → Type 0
IsShown st f = (P : Piece) (d : ℕ) (around : Around) → Faces st P d around → Shows st f P d around

-- Each fault by this error is.
abbrev pub AreShown : Error → (State → Located → Type 0) → Type 0
AreShown e fault = (st : State) (f : Located) → f.error ≡ e → fault st f → IsShown st f
