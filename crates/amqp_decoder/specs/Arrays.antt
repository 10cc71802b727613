-- What the calls that begin arrays promise (Part 1, sections 1.2.4 and 1.6.24).
use Rattle.std.specs.Prelude.{◌≡◌, ◌<◌, ◌≤◌, ◌⊎◌, ℕ, suc, false, List, [], ◌∷◌, ◌++◌, length, max, Some}
use Rattle.amqp_model.specs.Term.{Descriptor, array}
use Rattle.amqp_model.specs.Constructors.{Format, compound, format}
use Rattle.amqp_model.specs.Spelling.{IsKnown, HasWidthZero, Constructor}
use Rattle.amqp_wire.specs.Codes.{refusal_of}
use Rattle.amqp_wire.specs.declared.error.Error.{Error}
use Rattle.amqp_wire.specs.declared.error.Error.TheVariants.{Depth, ZeroWidthItems}
use Rattle.amqp_lengths.specs.Lengths.{Marks}
use Rattle.amqp_decoder.specs.declared.frame.Place.TheVariants.{InArray}
use Rattle.amqp_decoder.specs.State.{State, depth_error, Has, in_container}
use Rattle.amqp_decoder.specs.Steps.{Takes, Lacks, NoRoom}
use Rattle.amqp_decoder.specs.Places.{Located, Here}
use Rattle.amqp_decoder.specs.Reading.{ReadsCode, BeginFault}
use Rattle.amqp_decoder.specs.Containers.{ReadsHeader, HeaderFault}
use Rattle.amqp_decoder.specs.Described.{DescriptorFault}

-- Descriptors, each after a 0, and a further code stood next, and were taken.
pub record TakesMarks (st : State) (ds : List Descriptor) (c : ℕ) (st' : State) : Type 0 where
  pub own : List ℕ
  pub marks : Marks ds own
  pub took : Takes st (own ++ (c ∷ [])) st'

-- A constructor of at most 128 descriptors stood next, and was taken.
pub record TakesConstructor (st : State) (ds : List Descriptor) (c : ℕ) (st' : State) : Type 0 where
  pub own : List ℕ
  pub few : length ds ≤ 128
  pub spelled : Constructor ds c own
  pub took : Takes st own st'

-- Behind a 0, and n descriptors before it, none more may stand, or none does.
abbrev pub NoMarked : ℕ → State → Located → Type 0
NoMarked n st f = ((f.error ≡ Depth) × (128 ≤ n) × (f.left ≡ suc (length st.rest))) ⊎ ((n < 128) × Here DescriptorFault st f)

-- Why no constructor is taken, of which at most 128 descriptors may stand.
pub data ConstructorFault (st : State) (e : Error) : Type 0 where
  no_code : (ds : List Descriptor) (own : List ℕ) (m : State) → length ds ≤ 128 → Marks ds own → Takes st own m → Lacks 1 m e
      → ConstructorFault st e
  no_mark : (ds : List Descriptor) (m : State) → length ds < 128 → TakesMarks st ds 0 m → DescriptorFault m e → ConstructorFault st e
  too_many : (ds : List Descriptor) (m : State) → length ds ≡ 128 → TakesMarks st ds 0 m → e ≡ Depth → ConstructorFault st e
  no_known_code : (ds : List Descriptor) (c : ℕ) (m : State) → length ds ≤ 128 → TakesMarks st ds c m → (c ≡ 0 → ⊥)
      → (IsKnown (format c) → ⊥) → e ≡ refusal_of c → ConstructorFault st e

-- It stands at the code or the descriptor that is at fault: of too many, at the 0 in front of the last.
abbrev pub constructor_left : (st : State) (e : Error) → ConstructorFault st e → ℕ
constructor_left st e (no_code ds own m few marks took lacks) = length m.rest
constructor_left st e (no_mark ds m few took fault) = length m.rest
constructor_left st e (too_many ds m many took is) = suc (length m.rest)
constructor_left st e (no_known_code ds c m few took some unknown_ is) = suc (length m.rest)

-- The items of this constructor hold no others.
abbrev pub IsFlat : List Descriptor → Format → Type 0
IsFlat [] (compound kind width) = ⊥
IsFlat [] _ = Unit {0}
IsFlat (d ∷ ds) F = ⊥

-- The constructor of an array's n items stood next, and they share it, and are left from then on: its code isn't of width zero.
pub data Shares (n : ℕ) (st : State) (st' : State) : Type 0 where
  no_items : (ds : List Descriptor) (c : ℕ) → n ≡ 0 → TakesConstructor st ds c st' → Shares n st st'
  shared_by : (ds : List Descriptor) (c : ℕ) (m : State) → (n ≡ 0 → ⊥) → TakesConstructor st ds c m → (HasWidthZero (format c) → ⊥)
      → IsFlat ds (format c) ⊎ (length st.saved ≤ st.nesting)
      → st' ≡ record m { top = record m.top { items = Some n; shared = Some (ds, c) } } → Shares n st st'

-- Why they don't.
pub data SharesFault (n : ℕ) (st : State) (e : Error) : Type 0 where
  no_constructor : ConstructorFault st e → SharesFault n st e
  zero_width : (ds : List Descriptor) (c : ℕ) (m : State) → (n ≡ 0 → ⊥) → TakesConstructor st ds c m → HasWidthZero (format c)
      → e ≡ ZeroWidthItems → SharesFault n st e
  too_nested : (ds : List Descriptor) (c : ℕ) (m : State) → (n ≡ 0 → ⊥) → TakesConstructor st ds c m → (IsFlat ds (format c) → ⊥)
      → st.nesting < length st.saved → e ≡ depth_error st.nesting → SharesFault n st e

-- It stands where the constructor does, or in it.
abbrev pub shares_left : (n : ℕ) (st : State) (e : Error) → SharesFault n st e → ℕ
shares_left n st e (no_constructor fault) = constructor_left st e fault
shares_left n st e (zero_width ds c m some took zero is) = length st.rest
shares_left n st e (too_nested ds c m some took uneven deep is) = length st.rest

-- An array without items may have no constructor.
abbrev pub Starts : ℕ → ℕ → State → State → Type 0
Starts n content st st' = ((max n content ≡ 0) × (st' ≡ st)) ⊎ ((0 < max n content) × Shares n st st')

-- The size and the count of an array of n items stood next, and it was entered with so many bytes.
pub record OpensItems (width : ℕ) (st : State) (n content : ℕ) (st' : State) : Type 0 where
  pub mid : State
  pub header : ReadsHeader false width st n content mid
  pub room : Has mid.top.left content
  pub few : length mid.saved ≤ mid.nesting
  pub entered : st' ≡ in_container InArray 0 content mid

-- The data of an array of n items stood next, as far as its items, and it was entered; none of them is left before the
-- constructor is known.
pub record EntersArray (width : ℕ) (st : State) (n : ℕ) (st' : State) : Type 0 where
  pub content : ℕ
  pub mid : State
  pub header : ReadsHeader false width st n content mid
  pub room : Has mid.top.left content
  pub few : length st.saved ≤ st.nesting
  pub starts : Starts n content (in_container InArray 0 content mid) st'

-- Why none is entered, as far as its size and its count say.
pub data OpenItemsFault (width : ℕ) (st : State) (e : Error) : Type 0 where
  no_header : HeaderFault false width st e → OpenItemsFault width st e
  no_room : (n content : ℕ) (m : State) → ReadsHeader false width st n content m → NoRoom content m e → OpenItemsFault width st e
  too_deep : (n content : ℕ) (m : State) → ReadsHeader false width st n content m → st.nesting < length st.saved → e ≡ depth_error st.nesting
      → OpenItemsFault width st e

-- Why none is entered.
pub data EnterArrayFault (width : ℕ) (st : State) (e : Error) : Type 0 where
  no_items_opened : OpenItemsFault width st e → EnterArrayFault width st e
  no_start : (n content : ℕ) (m : State) → ReadsHeader false width st n content m → Has m.top.left content → 0 < max n content
      → SharesFault n (in_container InArray 0 content m) e → EnterArrayFault width st e

-- It stands where the array begins, from where on there are so many bytes, or in its constructor.
abbrev pub enter_left : (own width : ℕ) (st : State) (e : Error) → EnterArrayFault width st e → ℕ
enter_left own width st e (no_items_opened fault) = own
enter_left own width st e (no_start n content m header room some fault) = shares_left n (in_container InArray 0 content m) e fault

-- An array of n items stood next, as far as its items, and it was entered.
pub record OpensArray (st : State) (n : ℕ) (st' : State) : Type 0 where
  pub code : ℕ
  pub width : ℕ
  pub mid : State
  pub begun : ReadsCode st code mid
  pub announced : format code ≡ compound array width
  pub data_ : EntersArray width mid n st'

-- Why none is.
pub data ArrayFault (st : State) (e : Error) : Type 0 where
  not_begun : BeginFault st e → ArrayFault st e
  wrong_code : (c : ℕ) (m : State) → ReadsCode st c m → ((width : ℕ) → format c ≡ compound array width → ⊥)
      → e ≡ refusal_of c → ArrayFault st e
  no_data : (c width : ℕ) (m : State) → ReadsCode st c m → format c ≡ compound array width → EnterArrayFault width m e → ArrayFault st e

-- It stands where the array begins, or in its constructor.
abbrev pub array_left : (st : State) (e : Error) → ArrayFault st e → ℕ
array_left st e (not_begun fault) = length st.rest
array_left st e (wrong_code c m begun other is) = length st.rest
array_left st e (no_data c width m begun is fault) = enter_left (length st.rest) width m e fault
