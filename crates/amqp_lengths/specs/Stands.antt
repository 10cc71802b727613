-- What is wrong at the place of an error, over bytes alone: where a walk of the input gets to, and what begins there (Part 1, sections 1.2
-- and 1.6).
use Rattle.std.specs.Prelude.{◌≡◌, ℕ, suc, ◌+◌, ◌%◌, ◌<◌, ◌≤◌, ◌⊎◌, ◌||◌, cond, eqb, leb, nat_lt, List, [], ◌∷◌, length}
use Rattle.amqp_wire.specs.declared.error.Error.{Error}
use Rattle.amqp_wire.specs.declared.error.Error.TheVariants.{Cut, UnknownCode, FloatCode, Size, OddCount, DuplicateKey, Surplus, Missing}
use Rattle.amqp_wire.specs.declared.error.Error.TheVariants.{WrongDescriptor, Depth, ZeroWidthItems, BadBool, BadChar, BadUtf8, NonAscii}
use Rattle.amqp_wire.specs.declared.error.Error.TheVariants.{UnknownText, UnknownNumber, EmptyMultiple, EmptyBody, NotSection}
use Rattle.amqp_wire.specs.declared.error.Error.TheVariants.{InvalidValue, LazyInArray, WrongType, BadDescriptor}
use Rattle.amqp_wire.specs.declared.error.Error.TheVariants.{Custom, Misplaced, Limit}
use Rattle.amqp_model.specs.Term.{Container, map, array, Term, Descriptor}
use Rattle.amqp_model.specs.Constructors.{compound, format}
use Rattle.amqp_model.specs.Spelling.{IsKnown, HasWidthZero, Constructor, IsDataOf, IsSpelling}
use Rattle.amqp_lengths.specs.Fronts.{Behind}
use Rattle.amqp_lengths.specs.Pieces.{value_of, HoldsBytes, IsDescriptorCode, NamesAny}
use Rattle.amqp_lengths.specs.Announced.{SizeThen, content_size, Wants}
use Rattle.amqp_lengths.specs.Contents.{IsContent}
use Rattle.amqp_lengths.specs.Lengths.{HasMarks, Constructs, Row, HasPairs, levels_of}
use Rattle.amqp_lengths.specs.Faults.{ValueFault, ContentFault}

-- What has to begin at a place:
-- a_value: a term by itself, also after a descriptor;
-- an_item: that of this number, from 0 on, of a list or map of so many;
-- an_element: likewise of an array, whose items share these descriptors, which come first, and this code;
-- a_descriptor; an_array: the content of an array of so many items;
-- a_code: the rest of the constructor that an array's items share, after so many descriptors;
-- an_end: nothing, after all items of such a container of so many.
pub data Piece : Type 0 where
  a_value : Piece
  an_item : Container → ℕ → ℕ → Piece
  an_element : List Descriptor → ℕ → ℕ → ℕ → Piece
  a_descriptor : Piece
  an_array : ℕ → Piece
  a_code : ℕ → Piece
  an_end : Container → ℕ → Piece

-- The outermost container around a place: there is none, or one of which there is all that its size announces, or one that is cut.
pub data Around : Type 0 where
  unbounded : Around
  whole_one : Around
  cut_one : Around

abbrev pub outermost : Around → Around → Around
outermost unbounded inner = inner
outermost whole_one inner = whole_one
outermost cut_one inner = cut_one

-- It has a constructor of its own.
abbrev pub IsOwn : Piece → Type 0
IsOwn a_value = Unit {0}
IsOwn (an_item kind n i) = Unit {0}
IsOwn _ = ⊥

-- The code that it has or shares, and the bytes after that.
abbrev pub IsUnder : Piece → List ℕ → ℕ → List ℕ → Type 0
IsUnder (an_element [] s n i) z c data_ = (c ≡ s) × (data_ ≡ z)
IsUnder (an_element (e ∷ ds) s n i) z c data_ = ⊥
IsUnder (an_array n) z c data_ = ⊥
IsUnder (a_code n) z c data_ = ⊥
IsUnder (an_end kind n) z c data_ = ⊥
IsUnder P z c data_ = z ≡ c ∷ data_

abbrev pub AnyTerm : List ℕ → Type 0
AnyTerm b = (t : Term) × IsSpelling b t

abbrev pub AnyData : ℕ → List ℕ → Type 0
AnyData c b = (t : Term) × IsDataOf t [] c b

-- The data of a container of n items, the bytes of these, and how many bytes follow the container: all items are there, or the container is
-- cut, and nothing follows.
pub data Contains (kind : Container) (w n : ℕ) (items data_ : List ℕ) : Around → ℕ → Type 0 where
  all_there : (after : List ℕ) → Behind (IsContent kind w n items) data_ after → Contains kind w n items data_ whole_one (length after)
  cut_short : SizeThen w (λ size behind. (length behind < content_size kind w size)
      × SizeThen w (λ count after. (count ≡ n) × (after ≡ items)) behind) data_ → Contains kind w n items data_ cut_one 0

-- How many levels an array is above its items: one, unless these are primitives without descriptors.
abbrev pub level_of : ℕ → ℕ → ℕ
level_of k c = cond (nat_lt 0 k || (eqb c 0x45 || leb 0xc0 c)) 1 0

-- From one place to the next one further in. For both, what has to begin there, how many values that count in nesting are around, and the
-- bytes from there to the end of what is around. Then the container that is entered, if one is, and how many bytes follow it.
pub data Step : Piece → ℕ → List ℕ → Piece → ℕ → List ℕ → Around → ℕ → Type 0 where
  to_descriptor : (P : Piece) (d : ℕ) (z : List ℕ) → IsOwn P → Step P d (0 ∷ z) a_descriptor d z unbounded 0
  to_described : (P : Piece) (d : ℕ) (z after : List ℕ) → IsOwn P → Behind NamesAny z after
      → Step P d (0 ∷ z) a_value (suc d) after unbounded 0
  to_item : (P : Piece) (d : ℕ) (z data_ items after : List ℕ) (c w n i behind : ℕ) (kind : Container) (around : Around)
      → IsUnder P z c data_ → format c ≡ compound kind w → (kind ≡ array → ⊥) → Contains kind w n items data_ around behind → i < n
      → Behind (Row AnyTerm i) items after → Step P d z (an_item kind n i) (suc d) after around behind
  to_end : (P : Piece) (d : ℕ) (z data_ items after : List ℕ) (c w n behind : ℕ) (kind : Container) (around : Around)
      → IsUnder P z c data_ → format c ≡ compound kind w → (kind ≡ array → ⊥) → Contains kind w n items data_ around behind
      → Behind (Row AnyTerm n) items after → Step P d z (an_end kind n) (suc d) after around behind
  to_array : (P : Piece) (d : ℕ) (z data_ items : List ℕ) (c w n behind : ℕ) (around : Around) → IsUnder P z c data_
      → format c ≡ compound array w → Contains array w n items data_ around behind → Step P d z (an_array n) d items around behind
  to_code : (n d : ℕ) (z after : List ℕ) (k : ℕ) → k ≤ 128 → Behind (HasMarks k) z after
      → Step (an_array n) d z (a_code k) d after unbounded 0
  to_its_descriptor : (k d : ℕ) (z : List ℕ) → k < 128 → Step (a_code k) d (0 ∷ z) a_descriptor d z unbounded 0
  to_element : (n d : ℕ) (z data_ after : List ℕ) (ds : List Descriptor) (c i : ℕ) → length ds ≤ 128 → Behind (Constructor ds c) z data_
      → i < n → Behind (Row (AnyData c) i) data_ after
      → Step (an_array n) d z (an_element ds c n i) (d + level_of (length ds) c) after unbounded 0
  to_array_end : (n d : ℕ) (z data_ after : List ℕ) (k c : ℕ) → Behind (Constructs k c) z data_ → Behind (Row (AnyData c) n) data_ after
      → Step (an_array n) d z (an_end array n) d after unbounded 0
  to_its_described : (e : Descriptor) (ds : List Descriptor) (c n i d : ℕ) (z : List ℕ)
      → Step (an_element (e ∷ ds) c n i) d z (an_element ds c n i) (suc d) z unbounded 0

-- Some steps: the outermost container that they enter, and how many bytes follow what they enter.
pub data Leads : Piece → ℕ → List ℕ → Piece → ℕ → List ℕ → Around → ℕ → Type 0 where
  no_step : (P : Piece) (d : ℕ) (z : List ℕ) → Leads P d z P d z unbounded 0
  steps : (P Q R : Piece) (d k j : ℕ) (z y x : List ℕ) (around inner : Around) (behind more : ℕ) → Step P d z Q k y around behind
      → Leads Q k y R j x inner more → Leads P d z R j x (outermost around inner) (behind + more)

-- What may be wrong with what begins at a place.

-- Bytes are missing: a code, or a part of the data that the code announces, or the constructor of an array's items.
abbrev pub IsWanting : Piece → List ℕ → Type 0
IsWanting (an_array n) z = (z ≡ []) × (0 < n)
IsWanting (a_code k) z = z ≡ []
IsWanting (an_end kind n) z = ⊥
IsWanting (an_element ds s n i) z = (ds ≡ []) × Wants (format s) z
IsWanting a_descriptor z = (z ≡ []) ⊎ ((c : ℕ) × (data_ : List ℕ) × (z ≡ c ∷ data_) × IsDescriptorCode c × Wants (format c) data_)
IsWanting P z = (z ≡ []) ⊎ ((c : ℕ) × (data_ : List ℕ) × (z ≡ c ∷ data_) × Wants (format c) data_)

-- A code comes next, and it is c.
abbrev pub HasCode : Piece → List ℕ → ℕ → Type 0
HasCode (an_element [] s n i) z c = c ≡ s
HasCode (an_element (e ∷ ds) s n i) z c = c ≡ 0
HasCode (an_array n) z c = ⊥
HasCode (an_end kind n) z c = ⊥
HasCode P z c = (after : List ℕ) × (z ≡ c ∷ after)

-- It is in no table.
abbrev pub HasUnknown : Piece → List ℕ → ℕ → Type 0
HasUnknown (an_element ds s n i) z c = ⊥
HasUnknown P z c = HasCode P z c × (c ≡ 0 → ⊥) × (IsKnown (format c) → ⊥)

-- The data is there, and is no value, for this error.
abbrev pub HasNoValue : Error → Piece → List ℕ → Type 0
HasNoValue e P z = (c : ℕ) × (data_ content after : List ℕ) × IsUnder P z c data_ × Behind (HoldsBytes (format c) content) data_ after
    × ValueFault (value_of (format c) content) e

-- A container, and its data.
abbrev pub IsContainer : Piece → List ℕ → Container → ℕ → List ℕ → Type 0
IsContainer P z kind w data_ = (c : ℕ) × IsUnder P z c data_ × (format c ≡ compound kind w)

-- A container's size doesn't hold its count, or a list of the size 0 counts items.
abbrev pub HasWrongSize : Piece → List ℕ → Type 0
HasWrongSize P z = (kind : Container) × (w : ℕ) × (data_ : List ℕ) × IsContainer P z kind w data_ × ContentFault kind w data_ Size

abbrev pub IsEnd : Piece → Type 0
IsEnd (an_end kind n) = Unit {0}
IsEnd P = ⊥

-- A descriptor, its own or one that it shares.
abbrev pub IsMarked : Piece → List ℕ → Type 0
IsMarked (an_element ds s n i) z = ds ≡ [] → ⊥
IsMarked P z = IsOwn P × ((after : List ℕ) × (z ≡ 0 ∷ after))

-- It nests deeper than so many levels: by its descriptors, or as a list or map, or by the items of an array.
abbrev pub IsTooDeep : ℕ → Piece → ℕ → List ℕ → Type 0
IsTooDeep most P d z =
    (IsMarked P z × (most ≤ d))
    ⊎ (IsOwn P × ((n c : ℕ) × (after : List ℕ) × Behind (Constructs n c) z after × (most < d + n)))
    ⊎ ((kind : Container) × (w : ℕ) × (data_ : List ℕ) × IsContainer P z kind w data_ × (kind ≡ array → ⊥) × (most ≤ d))
    ⊎ ((n k c : ℕ) × (after : List ℕ) × (P ≡ an_array n) × Behind (Constructs k c) z after × (0 < n) × (most < d + levels_of k c))

-- A value or a descriptor begins, whole or not.
abbrev pub Begins : Piece → Type 0
Begins (an_array n) = ⊥
Begins (a_code k) = ⊥
Begins (an_end kind n) = ⊥
Begins P = Unit {0}

-- A whole value.
abbrev pub IsWhole : Piece → List ℕ → Type 0
IsWhole (an_element ds s n i) z = (after : List ℕ) × Behind (AnyData s) z after
IsWhole P z = IsOwn P × ((after : List ℕ) × Behind AnyTerm z after)

-- An item is null, or there is none.
abbrev pub IsAbsent : Piece → List ℕ → Type 0
IsAbsent (an_item kind n i) z = (after : List ℕ) × (z ≡ 0x40 ∷ after)
IsAbsent (an_end kind n) z = Unit {0}
IsAbsent P z = ⊥

abbrev pub IsKey : Piece → Type 0
IsKey (an_item map n i) = i % 2 ≡ 0
IsKey P = ⊥

abbrev pub IsElement : Piece → Type 0
IsElement (an_element ds s n i) = Unit {0}
IsElement P = ⊥

-- A whole descriptor, or one that it shares.
abbrev pub IsDescriptor : Piece → List ℕ → Type 0
IsDescriptor a_descriptor z = (after : List ℕ) × Behind NamesAny z after
IsDescriptor (an_element ds s n i) z = ds ≡ [] → ⊥
IsDescriptor P z = ⊥

-- A code that begins no descriptor, and that is known.
abbrev pub IsNoDescriptor : Piece → List ℕ → Type 0
IsNoDescriptor P z = (P ≡ a_descriptor) × ((c : ℕ) × HasCode P z c × ((c ≡ 0) ⊎ IsKnown (format c)) × (IsDescriptorCode c → ⊥))

-- Where a section begins.
abbrev pub IsSection : Piece → ℕ → Type 0
IsSection P d = (P ≡ a_value) × (d ≡ 0)

-- The errors that say the same in any container. What a type asks for beyond that is said by its own faults.
abbrev pub IsFaulty : Error → Piece → ℕ → List ℕ → Type 0
IsFaulty (UnknownCode c) P d z = HasUnknown P z c
IsFaulty (FloatCode c) P d z = HasUnknown P z c × ((c ≡ 0x72) ⊎ (c ≡ 0x82))
IsFaulty OddCount P d z = (w n behind : ℕ) × (data_ items : List ℕ) × (around : Around) × IsContainer P z map w data_
    × Contains map w n items data_ around behind × (HasPairs map n → ⊥)
IsFaulty DuplicateKey P d z = IsKey P × IsWhole P z
IsFaulty Surplus P d z = Begins P
IsFaulty Missing P d z = IsAbsent P z
IsFaulty WrongDescriptor P d z = IsDescriptor P z
IsFaulty Depth P d z = IsTooDeep 128 P d z ⊎ ((P ≡ a_code 128) × HasCode P z 0)
IsFaulty ZeroWidthItems P d z = (n k c : ℕ) × (after : List ℕ) × (P ≡ an_array n) × Behind (Constructs k c) z after × (0 < n)
    × HasWidthZero (format c)
IsFaulty BadBool P d z = HasNoValue BadBool P z
IsFaulty BadChar P d z = HasNoValue BadChar P z
IsFaulty BadUtf8 P d z = HasNoValue BadUtf8 P z
IsFaulty NonAscii P d z = HasNoValue NonAscii P z
IsFaulty UnknownText P d z = IsWhole P z
IsFaulty UnknownNumber P d z = IsWhole P z
IsFaulty EmptyMultiple P d z = IsAbsent P z ⊎ IsWhole P z
IsFaulty EmptyBody P d z = IsSection P d
IsFaulty NotSection P d z = IsSection P d × ((c : ℕ) × HasCode P z c)
IsFaulty InvalidValue P d z = Unit {0}
IsFaulty LazyInArray P d z = IsElement P
IsFaulty (WrongType c) P d z = Begins P × HasCode P z c
IsFaulty BadDescriptor P d z = IsNoDescriptor P z
IsFaulty (Custom n) P d z = Unit {0}
IsFaulty Misplaced P d z = IsSection P d × HasCode P z 0
IsFaulty Limit P d z = Begins P
IsFaulty e P d z = ⊥

-- What is wrong there, by the outermost container: bytes that are missing in a whole one contradict its size, or that of one in it. In one
-- that is cut, a size that is wrong may be its end.
abbrev pub IsWrong : Error → Around → Piece → ℕ → List ℕ → Type 0
IsWrong Cut around P d z = ((around ≡ whole_one → ⊥) × IsWanting P z) ⊎ ((around ≡ cut_one) × (HasWrongSize P z ⊎ IsEnd P))
IsWrong Size around P d z = ((around ≡ whole_one) × IsWanting P z) ⊎ (HasWrongSize P z ⊎ (IsEnd P × (0 < length z)))
IsWrong e around P d z = IsFaulty e P d z

-- From a place on: some steps lead to the one where this is wrong, from which on there are so many bytes.
pub record StandsFrom (around : Around) (P : Piece) (d : ℕ) (z : List ℕ) (e : Error) (left : ℕ) : Type 0 where
  pub piece : Piece
  pub depth : ℕ
  pub bytes : List ℕ
  pub inner : Around
  pub behind : ℕ
  pub leads : Leads P d z piece depth bytes inner behind
  pub place : left ≡ length bytes + behind
  pub wrong : IsWrong e (outermost around inner) piece depth bytes

-- After so many bytes of the input, something begins that is wrong, as the error says.
abbrev pub StandsAt : List ℕ → Error → ℕ → Type 0
StandsAt input e at = (left : ℕ) × (at + left ≡ length input) × StandsFrom unbounded a_value 0 input e left
