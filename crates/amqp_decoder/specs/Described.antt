-- What the calls that begin described values promise (Part 1, section 1.2).
use Rattle.std.specs.Prelude.{◌≡◌, ℕ, ◌<◌, ◌≤◌, ◌⊎◌, Bool, List, [], ◌∷◌, length, take, drop, cond, option_map, Option, Some, None, IsAscii}
use Rattle.amqp_model.specs.Term.{Descriptor}
use Rattle.amqp_model.specs.Constructors.{format}
use Rattle.amqp_model.specs.Spelling.{PrimitiveData, Names, descriptor_value}
use Rattle.amqp_wire.specs.declared.error.Error.{Error}
use Rattle.amqp_wire.specs.declared.error.Error.TheVariants.{Cut, BadDescriptor, NonAscii, WrongType, WrongDescriptor}
use Rattle.amqp_wire.specs.Codes.{refusal_of}
use Rattle.amqp_decoder.specs.declared.frame.Place.TheVariants.{InDescribed}
use Rattle.amqp_decoder.specs.State.{State, depth_error}
use Rattle.amqp_decoder.specs.Steps.{Answers, IsExcused, SourceFailed, Takes, Lacks}
use Rattle.amqp_decoder.specs.Reading.{ReadsCode, BeginFault}
use Rattle.amqp_lookahead.specs.Kinds.{kind_at, ulongs, symbols}
use Rattle.amqp_lookahead.specs.Members.{Member, place_of}
use Rattle.amqp_decoder.specs.Primitives.{LacksData, IsWhole}

-- The first of the descriptors that are shared.
abbrev pub IsMark : Option (List Descriptor × ℕ) → Descriptor → Type 0
IsMark None d = ⊥
IsMark (Some ([], c)) d = ⊥
IsMark (Some (e ∷ ds, c)) d = d ≡ e

-- No descriptor is shared.
abbrev pub IsUnmarked : Option (List Descriptor × ℕ) → Type 0
IsUnmarked None = Unit {0}
IsUnmarked (Some ([], c)) = c ≡ 0 → ⊥
IsUnmarked (Some (e ∷ ds, c)) = ⊥

-- The descriptor of a described value, and its bytes: its own, or none where it is shared.
abbrev pub IsDescriptor : Option (List Descriptor × ℕ) → Descriptor → List ℕ → Type 0
IsDescriptor None d own = Names d own
IsDescriptor (Some ([], c)) d own = ⊥
IsDescriptor (Some (e ∷ ds, c)) d own = (own ≡ []) × (d ≡ e)

-- The constructor behind its first descriptor.
abbrev pub behind : Option (List Descriptor × ℕ) → Option (List Descriptor × ℕ)
behind o = option_map (λ shared. (drop 1 shared.0, shared.1)) o

-- What a descriptor describes is open: one value, with the bytes of what it stands in, which has none left until it
-- ends.
abbrev pub in_described : State → State
in_described st = record st {
  top = record { place = InDescribed; items = Some 1; left = st.top.left; sized = st.top.sized; shared = behind st.top.shared };
  saved = (record st.top { left = option_map (λ l. 0) st.top.left }) ∷ st.saved;
}

-- Where a value whose first code is 0 can stand.
abbrev pub IsDescribable : Option (List Descriptor × ℕ) → Type 0
IsDescribable None = Unit {0}
IsDescribable (Some ([], c)) = c ≡ 0
IsDescribable (Some (e ∷ ds, c)) = Unit {0}

-- A descriptor stood next, and was taken.
pub record TakesDescriptor (st : State) (d : Descriptor) (st' : State) : Type 0 where
  pub own : List ℕ
  pub descriptor : IsDescriptor st.top.shared d own
  pub took : Takes st own st'

-- A described value stood next, and what its descriptor describes was opened.
pub record OpensDescribed (st : State) (d : Descriptor) (st' : State) : Type 0 where
  pub coded : State
  pub named : State
  pub begun : ReadsCode st 0 coded
  pub nested : length st.saved < st.nesting
  pub descriptor : TakesDescriptor coded d named
  pub opened : st' ≡ in_described named

-- A described value with the descriptor of this member stood next, and was opened.
pub record OpensOneOf (members : List Member) (st : State) (i : ℕ) (st' : State) : Type 0 where
  pub descriptor : Descriptor
  pub place : place_of members descriptor ≡ Some i
  pub opens : OpensDescribed st descriptor st'

-- Why no described value begins.
pub data DescribedFault (st : State) (e : Error) : Type 0 where
  not_begun : BeginFault st e → DescribedFault st e
  other_code : {c : ℕ} {m : State} → ReadsCode st c m → (c ≡ 0 → ⊥) → e ≡ refusal_of c → DescribedFault st e
  too_deep : {m : State} → ReadsCode st 0 m → st.nesting ≤ length st.saved → e ≡ depth_error st.nesting → DescribedFault st e

-- The error for a code that is neither a ulong's nor a symbol's.
abbrev pub other_kind : Error → Error
other_kind (WrongType c) = BadDescriptor
other_kind e = e

-- A symbol's code, by the width of its size.
abbrev pub symbol_code : Bool → ℕ
symbol_code wide = cond wide 0xb3 0xa3

-- The kinds of descriptors: a ulong and a symbol.
abbrev pub IsDescriptorKind : Option ℕ → Type 0
IsDescriptorKind k = (k ≡ Some ulongs) ⊎ (k ≡ Some symbols)

-- Why no descriptor is read.
pub data DescriptorFault (st : State) (e : Error) : Type 0 where
  no_code : Lacks 1 st e → DescriptorFault st e
  no_kind : {c : ℕ} {m : State} → Takes st (c ∷ []) m → (IsDescriptorKind (kind_at c) → ⊥)
      → e ≡ other_kind (refusal_of c) → DescriptorFault st e
  no_data : {c : ℕ} {m : State} → Takes st (c ∷ []) m → IsDescriptorKind (kind_at c) → LacksData (format c) m e → DescriptorFault st e
  non_ascii : {c : ℕ} {m : State} {b : List ℕ} {m' : State} → Takes st (c ∷ []) m → kind_at c ≡ Some symbols
      → Takes m b m' → IsWhole (format c) b
      → ((d : Descriptor) → PrimitiveData (format c) (descriptor_value d) b → ⊥) → e ≡ NonAscii → DescriptorFault st e

-- No descriptor was taken.
pub record MissesDescriptor (takes : Bool) (st : State) (e : Error) (st' : State) : Type 0 where
  pub kept : Answers st e st'
  pub why : IsExcused takes e st' ⊎ ((st.top.shared ≡ None) × DescriptorFault st e)

-- A descriptor stood next, and the first member that it is stands at this place.
pub record TakesPlace (members : List Member) (st : State) (place : Option ℕ) (st' : State) : Type 0 where
  pub descriptor : Descriptor
  pub took : TakesDescriptor st descriptor st'
  pub is : place_of members descriptor ≡ place

-- No name of n bytes was taken.
pub record MissesName (n : ℕ) (st : State) (e : Error) (st' : State) : Type 0 where
  pub kept : Answers st e st'
  pub why : SourceFailed e st' ⊎ ((e ≡ Cut) × (length st.rest < n))
      ⊎ ((e ≡ NonAscii) × (n ≤ length st.rest) × (IsAscii (take n st.rest) → ⊥))

-- Why no described value is opened.
pub data OpenFault (st : State) (e : Error) : Type 0 where
  not_open : DescribedFault st e → OpenFault st e
  nameless : {m : State} → ReadsCode st 0 m → m.top.shared ≡ None → DescriptorFault m e → OpenFault st e

-- Why no value with the descriptor of a member is opened.
pub data OneOfFault (members : List Member) (st : State) (e : Error) : Type 0 where
  not_described : DescribedFault st e → OneOfFault members st e
  no_descriptor : {m : State} → ReadsCode st 0 m → m.top.shared ≡ None → DescriptorFault m e → OneOfFault members st e
  no_member : {m : State} {m' : State} → ReadsCode st 0 m → TakesPlace members m None m' → e ≡ WrongDescriptor → OneOfFault members st e

-- They stand where the described value begins, or at its descriptor.
abbrev pub open_left : (st : State) (e : Error) → OpenFault st e → ℕ
open_left st e (not_open fault) = length st.rest
open_left st e (nameless {m} begun own fault) = length m.rest

abbrev pub one_of_left : (members : List Member) (st : State) (e : Error) → OneOfFault members st e → ℕ
one_of_left members st e (not_described fault) = length st.rest
one_of_left members st e (no_descriptor {m} begun own fault) = length m.rest
one_of_left members st e (no_member {m} {m'} begun took is) = length m.rest
