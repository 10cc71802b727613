-- What the calls that begin and end containers promise (Part 1, sections 1.2 and 1.6.22 to 1.6.24).
use Rattle.std.specs.Prelude.{◌≡◌, ◌<◌, ◌≤◌, ◌+◌, ◌^◌, ◌%◌, ◌⊎◌, ℕ, Bool, true, false, List, [], ◌∷◌, ◌++◌, length, Some, None}
use Rattle.std.specs.Int.{bytes_high_first}
use Rattle.amqp_model.specs.Term.{Container, list, map, array}
use Rattle.amqp_model.specs.Constructors.{compound, format}
use Rattle.amqp_wire.specs.Codes.{refusal_of}
use Rattle.amqp_wire.specs.declared.error.Error.{Error}
use Rattle.amqp_wire.specs.declared.error.Error.TheVariants.{Surplus, InvalidValue, OddCount}
use Rattle.amqp_decoder.specs.declared.frame.Place.{Place}
use Rattle.amqp_decoder.specs.declared.frame.Place.TheVariants.{InList, InMap, InArray}
use Rattle.amqp_decoder.specs.State.{Open, State, depth_error, Has, bound_of, in_container}
use Rattle.amqp_decoder.specs.Steps.{SizeError, Takes, Lacks, NoRoom}
use Rattle.amqp_decoder.specs.Reading.{ReadsCode, BeginFault}

-- A container of this kind is open, and no item of it is left.
pub record AtEnd (place : Place) (st : State) (st' : State) : Type 0 where
  pub going : st.error ≡ None
  pub here : st.top.place ≡ place
  pub items : st.top.items ≡ Some 0
  pub outer : Open
  pub others : List Open
  pub saved : st.saved ≡ outer ∷ others
  pub kept : st' ≡ st

-- A container of this kind is open.
pub record IsOpen (place : Place) (st : State) : Type 0 where
  pub here : st.top.place ≡ place
  pub outer : Open
  pub others : List Open
  pub saved : st.saved ≡ outer ∷ others

-- Why it isn't at its end: another kind is open or none, or items of it are left.
pub data EndFault (place : Place) (st : State) (e : Error) : Type 0 where
  other_place : (st.top.place ≡ place → ⊥) → e ≡ InvalidValue → EndFault place st e
  nothing_open : st.saved ≡ [] → e ≡ InvalidValue → EndFault place st e
  items_left : IsOpen place st → (st.top.items ≡ Some 0 → ⊥) → e ≡ Surplus → EndFault place st e

-- A container of this kind, of which nothing is left, was left.
pub record Closes (place : Place) (st : State) (st' : State) : Type 0 where
  pub going : st.error ≡ None
  pub here : st.top.place ≡ place
  pub items : st.top.items ≡ Some 0
  pub left : bound_of st.top ≡ Some 0
  pub outer : Open
  pub others : List Open
  pub saved : st.saved ≡ outer ∷ others
  pub moved : st' ≡ record st { top = outer; saved = others }

-- Why none is left: it isn't at its end, or it is, and bytes of it are left.
pub data CloseFault (place : Place) (st : State) (e : Error) : Type 0 where
  not_at_end : EndFault place st e → CloseFault place st e
  bytes_left_over : IsOpen place st → st.top.items ≡ Some 0 → (bound_of st.top ≡ Some 0 → ⊥) → SizeError 0 st e → CloseFault place st e

-- The value behind a descriptor was taken: what it stands in has the bytes that are left.
pub record ClosesDescribed (place : Place) (st : State) (st' : State) : Type 0 where
  pub going : st.error ≡ None
  pub here : st.top.place ≡ place
  pub items : st.top.items ≡ Some 0
  pub outer : Open
  pub others : List Open
  pub saved : st.saved ≡ outer ∷ others
  pub moved : st' ≡ record st { top = record outer { left = st.top.left; sized = st.top.sized }; saved = others }

-- Where the items of a container stand.
abbrev pub place_of : Container → Place
place_of list = InList
place_of map = InMap
place_of array = InArray

abbrev pub is_list : Container → Bool
is_list list = true
is_list map = false
is_list array = false

-- Section 1.6.23: a map has a value for each key.
abbrev pub IsCount : Container → ℕ → Type 0
IsCount list n = Unit {0}
IsCount map n = n % 2 ≡ 0
IsCount array n = Unit {0}

-- Section 1.2.3: the size counts the bytes of the count, too. A list without items may say 0.
abbrev pub Counts : Bool → ℕ → ℕ → ℕ → ℕ → Type 0
Counts listed width n content size = (size ≡ width + content) ⊎ ((listed ≡ true) × (n ≡ 0) × (content ≡ 0) × (size ≡ 0))

-- A size that can be right.
abbrev pub IsPossible : Bool → ℕ → ℕ → Type 0
IsPossible listed width size = (width ≤ size) ⊎ ((listed ≡ true) × (size ≡ 0))

-- A size and a count stood next: of n items, which have so many bytes.
pub record ReadsHeader (listed : Bool) (width : ℕ) (st : State) (n content : ℕ) (st' : State) : Type 0 where
  pub size : ℕ
  pub fits : size < 256 ^ width
  pub few : n < 256 ^ width
  pub took : Takes st (bytes_high_first width size ++ bytes_high_first width n) st'
  pub counts : Counts listed width n content size

-- Why there is no such size and count.
pub data HeaderFault (listed : Bool) (width : ℕ) (st : State) (e : Error) : Type 0 where
  no_size : Lacks width st e → HeaderFault listed width st e
  impossible : {size : ℕ} {m : State} → size < 256 ^ width → Takes st (bytes_high_first width size) m → (IsPossible listed width size → ⊥)
      → SizeError size m e → HeaderFault listed width st e
  no_count : {size : ℕ} {m : State} → size < 256 ^ width → Takes st (bytes_high_first width size) m → IsPossible listed width size
      → Lacks width m e → HeaderFault listed width st e
  no_content : {n : ℕ} {m : State} → 0 < n → n < 256 ^ width → Takes st (bytes_high_first width 0 ++ bytes_high_first width n) m
      → SizeError 0 m e → HeaderFault listed width st e

-- Why a container of so many bytes can't be opened.
abbrev pub Unopened : ℕ → State → Error → Type 0
Unopened content st e = NoRoom content st e ⊎ (Has st.top.left content × (st.nesting ≤ length st.saved) × (e ≡ depth_error st.nesting))

-- The data of a container of n items stood next, as far as its items, and it was entered.
pub record Enters (kind : Container) (width : ℕ) (st : State) (n : ℕ) (st' : State) : Type 0 where
  pub content : ℕ
  pub mid : State
  pub header : ReadsHeader (is_list kind) width st n content mid
  pub count : IsCount kind n
  pub room : Has mid.top.left content
  pub few : length st.saved < st.nesting
  pub entered : st' ≡ in_container (place_of kind) n content mid

-- Why none is entered.
pub data EnterFault (kind : Container) (width : ℕ) (st : State) (e : Error) : Type 0 where
  no_header : HeaderFault (is_list kind) width st e → EnterFault kind width st e
  odd_count : {n content : ℕ} {m : State} → ReadsHeader (is_list kind) width st n content m → (IsCount kind n → ⊥) → e ≡ OddCount
      → EnterFault kind width st e
  no_room : {n content : ℕ} {m : State} → ReadsHeader (is_list kind) width st n content m → IsCount kind n → NoRoom content m e
      → EnterFault kind width st e
  too_deep : {n content : ℕ} {m : State} → ReadsHeader (is_list kind) width st n content m → IsCount kind n → Has m.top.left content
      → st.nesting ≤ length st.saved → e ≡ depth_error st.nesting → EnterFault kind width st e

-- A container of this kind and of n items stood next, as far as its items, and it was entered.
pub record Opens (kind : Container) (st : State) (n : ℕ) (st' : State) : Type 0 where
  pub code : ℕ
  pub width : ℕ
  pub mid : State
  pub begun : ReadsCode st code mid
  pub announced : format code ≡ compound kind width
  pub data_ : Enters kind width mid n st'

-- Why none of this kind is.
pub data OpenFault (kind : Container) (st : State) (e : Error) : Type 0 where
  not_begun : BeginFault st e → OpenFault kind st e
  wrong_code : {c : ℕ} {m : State} → ReadsCode st c m → ((width : ℕ) → format c ≡ compound kind width → ⊥)
      → e ≡ refusal_of c → OpenFault kind st e
  no_data : {c width : ℕ} {m : State} → ReadsCode st c m → format c ≡ compound kind width → EnterFault kind width m e → OpenFault kind st e
