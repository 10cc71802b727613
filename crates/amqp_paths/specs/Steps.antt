-- From what begins at a place to what is next further in.
use Rattle.std.specs.Prelude.{◌≡◌, ℕ, true, ◌≤◌, ◌<◌, ◌+◌, ◌-◌, List, ◌∷◌, ◌++◌, length}
use Rattle.amqp_model.specs.Term.{Container, array}
use Rattle.amqp_model.specs.Constructors.{compound, format}
use Rattle.amqp_model.specs.Spelling.{IsKnown, HasWidthZero}
use Rattle.amqp_lengths.specs.Fronts.{IsFront}
use Rattle.amqp_lengths.specs.Pieces.{IsPrimitive, NamesAny}
use Rattle.amqp_lengths.specs.Lengths.{IsTerm, Row, HasPairs}
use Rattle.amqp_lengths.specs.Contents.{IsContent}
use Rattle.amqp_lengths.specs.Stands as stands
use Rattle.amqp_lengths.specs.Stands.{Around, whole_one, IsUnder, AnyTerm, AnyData, Contains, Step}
use Rattle.amqp_paths.specs.declared.contents.Content.{Content}
use Rattle.amqp_paths.specs.declared.piece.ContainerKind.{ContainerKind}
use Rattle.amqp_paths.specs.declared.piece.ContainerKind.TheVariants.{Array}
use Rattle.amqp_paths.specs.declared.piece.Piece.{Piece}
use Rattle.amqp_paths.specs.declared.piece.Piece.TheVariants.{Descriptor, Item, ArrayContent, ElementConstructor, Element, End}
use Rattle.amqp_paths.specs.declared.steps.Further.{Further}
use Rattle.amqp_paths.specs.Pieces.{IsPiece}

-- Some bytes among others, of which so many are before them and so many behind them.
pub record Among (all part : List ℕ) (before behind : ℕ) : Type 0 where
  pub front : List ℕ
  pub rest : List ℕ
  pub is : all ≡ front ++ (part ++ rest)
  pub before_is : length front ≡ before
  pub behind_is : length rest ≡ behind

-- No front of the bytes that is a P ends within so many of them.
abbrev pub NoneWithin : (List ℕ → Type 0) → List ℕ → ℕ → Type 0
NoneWithin P input room = (front after : List ℕ) → input ≡ front ++ after → P front → room < length front

-- A 0 and a descriptor.
abbrev pub IsMark : List ℕ → Type 0
IsMark b = (name : List ℕ) × (b ≡ 0 ∷ name) × NamesAny name

-- What there is of the content of a container.
pub record HasContent (kind : Container) (w : ℕ) (input : List ℕ) (content : Content) : Type 0 where
  pub items : List ℕ
  pub around : Around
  pub behind : ℕ
  pub part : Among input items content.start behind
  pub ends : content.end + behind ≡ length input
  pub contains : Contains kind w content.count items input around behind
  pub whole : content.whole ≡ true → around ≡ whole_one

-- Of the items of a list or map, the one that begins there, behind whole ones; or their end, behind all of them.
abbrev pub IsItem : ContainerKind → ℕ → List ℕ → Piece → ℕ → Type 0
IsItem kind n content (Item k m i) start = (k ≡ kind) × (m ≡ n) × (i < n) × IsFront (Row (IsTerm 128) i) content start
IsItem kind n content (End k m) start = (k ≡ kind) × (m ≡ n) × IsFront (Row (IsTerm 128) n) content start
IsItem kind n content _ start = ⊥

-- What begins there in the content of a container: an item or the end of a list or map, or the content of an array.
abbrev pub IsPart : ContainerKind → ℕ → List ℕ → Piece → ℕ → Type 0
IsPart Array n content p start = (p ≡ ArrayContent n) × (start ≡ 0)
IsPart kind n content p start = IsItem kind n content p start

-- The data of a list or map of whole values.
abbrev pub IsRow : Container → ℕ → List ℕ → Type 0
IsRow kind w b = (n : ℕ) × (items : List ℕ) × IsContent kind w n items b × HasPairs kind n × Row (IsTerm 128) n items × (kind ≡ array → ⊥)

-- Likewise of the data of an array's items, under one code.
abbrev pub IsElement : ℕ → ℕ → ℕ → List ℕ → Piece → ℕ → Type 0
IsElement k c n data_ (Element l d m i) start = (l ≡ k) × (d ≡ c) × (m ≡ n) × (i < n) × IsFront (Row (AnyData c) i) data_ start
IsElement k c n data_ (End kind m) start = (kind ≡ Array) × (m ≡ n) × IsFront (Row (AnyData c) n) data_ start
IsElement k c n data_ _ start = ⊥

-- What begins there reaches over the place, which so many bytes are before: no whole item or descriptor ends there, and no code of a
-- constructor. Of the items of an array this is said of primitives that have bytes.
abbrev pub Reaches : Piece → List ℕ → ℕ → Type 0
Reaches (Item kind n i) z room = NoneWithin (IsTerm 128) z room
Reaches Descriptor z room = NoneWithin NamesAny z room
Reaches (ElementConstructor k) z room =
    (k < 128 → NoneWithin IsMark z room) × ((c : ℕ) (after : List ℕ) → z ≡ c ∷ after → IsKnown (format c) → room ≡ 0)
Reaches (Element k c n i) z room = IsPrimitive (format c) → (HasWidthZero (format c) → ⊥) → NoneWithin (AnyData c) z room
Reaches _ z room = Unit {0}

-- No content of a container begins within so many bytes of the data under a code.
abbrev pub NoContentWithin : ℕ → List ℕ → ℕ → Type 0
NoContentWithin c data_ room = (kind : Container) (w n behind : ℕ) (items : List ℕ) (around : Around) → format c ≡ compound kind w
    → Contains kind w n items data_ around behind → room < w + w

-- From a piece, which these bytes begin with, one step leads to what is further in. It begins within so many bytes.
pub record StepsTo (Begins : stands.Piece → List ℕ → Type 0) (input : List ℕ) (room : ℕ) (f : Further) : Type 0 where
  pub bytes : List ℕ
  pub behind : ℕ
  pub part : Among input bytes f.start behind
  pub ends : f.end + behind ≡ length input
  pub near : f.start ≤ room
  pub reaches : Reaches f.piece bytes (room - f.start)
  pub step : (P : stands.Piece) (d : ℕ) (z : List ℕ) → Begins P z → (Q : stands.Piece) × (k : ℕ) × (around : Around) × IsPiece f.piece Q
      × Step P d z Q k bytes around behind

-- No step leads to what begins within so many bytes.
abbrev pub StepsBeyond : (stands.Piece → List ℕ → Type 0) → ℕ → Type 0
StepsBeyond Begins room = (P Q : stands.Piece) (d k behind : ℕ) (z y : List ℕ) (around : Around) → Begins P z
    → Step P d z Q k y around behind → room + (length y + behind) < length z
