-- Why an input begins with no term: the fault that stands there, and the error that names it (Part 1, sections 1.2 and 1.6).
use Rattle.std.specs.Prelude.{◌≡◌, ℕ, suc, ◌+◌, ◌<◌, ◌≤◌, ◌⊎◌, List, [], ◌∷◌, length, Option, Some, None, IsUtf8, IsAscii}
use Rattle.std.specs.Char.{IsScalar}
use Rattle.amqp_wire.specs.declared.error.Error.{Error}
use Rattle.amqp_wire.specs.declared.error.Error.TheVariants.{Cut, Size, OddCount, Depth, ZeroWidthItems, BadBool, BadChar, BadUtf8}
use Rattle.amqp_wire.specs.declared.error.Error.TheVariants.{NonAscii, BadDescriptor}
use Rattle.amqp_wire.specs.Codes.{refusal_of}
use Rattle.amqp_model.specs.Term.{Primitive, char, string, symbol, Container, list, array}
use Rattle.amqp_model.specs.Constructors.{Format, compound, format}
use Rattle.amqp_model.specs.Spelling.{IsKnown, HasWidthZero}
use Rattle.amqp_lengths.specs.Fronts.{Behind}
use Rattle.amqp_lengths.specs.Pieces.{IsPrimitive, value_of, HoldsBytes, IsDescriptorCode}
use Rattle.amqp_lengths.specs.Announced.{SizeThen, Wants}
use Rattle.amqp_lengths.specs.Contents.{IsContent, HasContent}
use Rattle.amqp_lengths.specs.Lengths.{HasMarks, Constructs, IsTerm, IsData, Row, HasPairs, levels_of}

-- The bytes are no value: what they would be if they were one, and the error.
abbrev pub ValueFault : Option Primitive → Error → Type 0
ValueFault None e = e ≡ BadBool
ValueFault (Some (char n)) e = (IsScalar n → ⊥) × (e ≡ BadChar)
ValueFault (Some (string s)) e = (IsUtf8 s → ⊥) × (e ≡ BadUtf8)
ValueFault (Some (symbol s)) e = (IsAscii s → ⊥) × (e ≡ NonAscii)
ValueFault (Some _) e = ⊥

-- The data of a primitive isn't all there, or it is no value.
pub data PrimitiveFault (F : Format) (input : List ℕ) : Error → Type 0 where
  primitive_wanting : IsPrimitive F → Wants F input → PrimitiveFault F input Cut
  primitive_no_value : (content after : List ℕ) (e : Error) → Behind (HoldsBytes F content) input after → ValueFault (value_of F content) e
      → PrimitiveFault F input e

-- The input ends, or has a code that is no descriptor's, or the data of its code is faulty.
pub data DescriptorFault (input : List ℕ) : Error → Type 0 where
  descriptor_missing : input ≡ [] → DescriptorFault input Cut
  descriptor_other : (c : ℕ) (after : List ℕ) → input ≡ c ∷ after → (c ≡ 0) ⊎ IsKnown (format c) → (IsDescriptorCode c → ⊥)
      → DescriptorFault input BadDescriptor
  descriptor_unknown : (c : ℕ) (after : List ℕ) → input ≡ c ∷ after → (c ≡ 0 → ⊥) → (IsKnown (format c) → ⊥)
      → DescriptorFault input (refusal_of c)
  descriptor_data : (c : ℕ) (after : List ℕ) (e : Error) → input ≡ c ∷ after → IsDescriptorCode c → PrimitiveFault (format c) after e
      → DescriptorFault input e

-- Behind at most 128 descriptors, the input ends, or has an unknown code, or one descriptor more, or a faulty one. The number is how many
-- bytes there are from the place of the fault on: of that code, or of the descriptor.
pub data ConstructorFault (input : List ℕ) : Error → ℕ → Type 0 where
  constructor_ends : (n : ℕ) → n ≤ 128 → Behind (HasMarks n) input [] → ConstructorFault input Cut 0
  constructor_unknown : (n c : ℕ) (after : List ℕ) → n ≤ 128 → Behind (HasMarks n) input (c ∷ after) → (c ≡ 0 → ⊥)
      → (IsKnown (format c) → ⊥) → ConstructorFault input (refusal_of c) (suc (length after))
  constructor_long : (after : List ℕ) → Behind (HasMarks 128) input (0 ∷ after) → ConstructorFault input Depth (suc (length after))
  constructor_descriptor : (n : ℕ) (after : List ℕ) (e : Error) → n < 128 → Behind (HasMarks n) input (0 ∷ after) → DescriptorFault after e
      → ConstructorFault input e (length after)

-- A container's data isn't all there, its size doesn't hold its count, or it is a list of the size 0 that counts items.
pub data ContentFault (kind : Container) (w : ℕ) (input : List ℕ) : Error → Type 0 where
  content_wanting : Wants (compound kind w) input → ContentFault kind w input Cut
  content_small : SizeThen w (λ size behind. (size ≤ length behind) × (size < w) × ((kind ≡ list) × (size ≡ 0) → ⊥)) input
      → ContentFault kind w input Size
  content_counted : kind ≡ list → SizeThen w (λ size behind. (size ≡ 0) × SizeThen w (λ count after. 0 < count) behind) input
      → ContentFault kind w input Size

-- In a container what it announces is there, so that a value in it that asks for more contradicts the size.
abbrev pub inside : Error → Error
inside Cut = Size
inside e = e

-- deep: the error for values that nest too deep; own: how many bytes of a code of its own stand before the data, one or none; at the end: how
-- many bytes there are from the place of the fault to the end of the input or of the content
mutual
  -- The constructor is faulty, or has more descriptors than the nesting allows, or the data behind it is faulty.
  pub data TermFault (deep : Error) : ℕ → List ℕ → Error → ℕ → Type 0 where
    term_constructor : (nesting : ℕ) (input : List ℕ) (e : Error) (left : ℕ) → ConstructorFault input e left
        → TermFault deep nesting input e left
    term_nests : (nesting : ℕ) (input : List ℕ) (n c : ℕ) (after : List ℕ) → Behind (Constructs n c) input after → nesting < n
        → TermFault deep nesting input deep (length input)
    term_data : (nesting : ℕ) (input : List ℕ) (e : Error) (n c inner left : ℕ) (after : List ℕ) → Behind (Constructs n c) input after
        → n + inner ≡ nesting → DataFault deep 1 c inner after e left → TermFault deep nesting input e left

  -- The data under a code is faulty: as a whole, from its own code on, or something in it.
  pub data DataFault (deep : Error) : ℕ → ℕ → ℕ → List ℕ → Error → ℕ → Type 0 where
    data_of_primitive : (own c nesting : ℕ) (input : List ℕ) (e : Error) → PrimitiveFault (format c) input e
        → DataFault deep own c nesting input e (own + length input)
    data_of_container : (own c nesting : ℕ) (input : List ℕ) (e : Error) (left : ℕ) (kind : Container) (w : ℕ) → format c ≡ compound kind w
        → (kind ≡ array → ⊥) → ContainerFault deep own kind w nesting input e left → DataFault deep own c nesting input e left
    data_of_array : (own c nesting : ℕ) (input : List ℕ) (e : Error) (left w : ℕ) → format c ≡ compound array w
        → ArrayFault deep own w nesting input e left → DataFault deep own c nesting input e left

  -- A list or map: its content isn't there, or it may not nest at all, or a map's count is odd, or its items are faulty.
  pub data ContainerFault (deep : Error) : ℕ → Container → ℕ → ℕ → List ℕ → Error → ℕ → Type 0 where
    container_content : (own : ℕ) (kind : Container) (w nesting : ℕ) (input : List ℕ) (e : Error) → ContentFault kind w input e
        → ContainerFault deep own kind w nesting input e (own + length input)
    container_deep : (own : ℕ) (kind : Container) (w nesting : ℕ) (input after : List ℕ) → Behind (HasContent kind w) input after → nesting ≡ 0
        → ContainerFault deep own kind w nesting input deep (own + length input)
    container_unpaired : (own : ℕ) (kind : Container) (w nesting : ℕ) (input : List ℕ) (n : ℕ) (items after : List ℕ)
        → Behind (IsContent kind w n items) input after → (HasPairs kind n → ⊥)
        → ContainerFault deep own kind w nesting input OddCount (own + length input)
    container_items : (own : ℕ) (kind : Container) (w nesting : ℕ) (input : List ℕ) (e : Error) (n inner left : ℕ) (items after : List ℕ)
        → Behind (IsContent kind w n items) input after → nesting ≡ suc inner → ItemsFault deep inner n items e left
        → ContainerFault deep own kind w nesting input e (left + length after)

  -- Of so many terms, one is faulty behind some whole ones, or bytes are left over behind them all.
  pub data ItemsFault (deep : Error) : ℕ → ℕ → List ℕ → Error → ℕ → Type 0 where
    items_fault : (nesting n : ℕ) (content : List ℕ) (cause : Error) (done left : ℕ) (after : List ℕ) → done < n
        → Behind (Row (IsTerm nesting) done) content after → TermFault deep nesting after cause left
        → ItemsFault deep nesting n content (inside cause) left
    items_over : (nesting n : ℕ) (content after : List ℕ) → Behind (Row (IsTerm nesting) n) content after → 0 < length after
        → ItemsFault deep nesting n content Size (length after)

  -- An array: its content isn't there, or is faulty.
  pub data ArrayFault (deep : Error) : ℕ → ℕ → ℕ → List ℕ → Error → ℕ → Type 0 where
    array_content : (own w nesting : ℕ) (input : List ℕ) (e : Error) → ContentFault array w input e
        → ArrayFault deep own w nesting input e (own + length input)
    array_elements : (own w nesting : ℕ) (input : List ℕ) (e : Error) (n left : ℕ) (items after : List ℕ)
        → Behind (IsContent array w n items) input after → ElementsFault deep nesting n items e left
        → ArrayFault deep own w nesting input e (left + length after)

  -- The content of an array of so many items: their constructor is missing or faulty, or stands before bytes though there are
  -- no items, or is that of items without bytes, or of items that nest too deep, or the data behind it is faulty.
  pub data ElementsFault (deep : Error) : ℕ → ℕ → List ℕ → Error → ℕ → Type 0 where
    elements_missing : (nesting n : ℕ) (content : List ℕ) → content ≡ [] → 0 < n → ElementsFault deep nesting n content Size 0
    elements_constructor : (nesting n : ℕ) (content : List ℕ) (cause : Error) (left : ℕ) → 0 < length content
        → ConstructorFault content cause left → ElementsFault deep nesting n content (inside cause) left
    elements_over : (nesting n : ℕ) (content : List ℕ) (m c : ℕ) (after : List ℕ) → Behind (Constructs m c) content after → n ≡ 0
        → 0 < length after → ElementsFault deep nesting n content Size (length after)
    elements_empty : (nesting n : ℕ) (content : List ℕ) (m c : ℕ) (after : List ℕ) → Behind (Constructs m c) content after → 0 < n
        → HasWidthZero (format c) → ElementsFault deep nesting n content ZeroWidthItems (length content)
    elements_deep : (nesting n : ℕ) (content : List ℕ) (m c : ℕ) (after : List ℕ) → Behind (Constructs m c) content after → 0 < n
        → nesting < levels_of m c → ElementsFault deep nesting n content deep (length content)
    elements_data : (nesting n : ℕ) (content : List ℕ) (e : Error) (m c inner left : ℕ) (after : List ℕ)
        → Behind (Constructs m c) content after → 0 < n → inner + levels_of m c ≡ nesting → SharedFault deep c inner n after e left
        → ElementsFault deep nesting n content e left

  -- Of the data of so many items under one code, one is faulty behind some whole ones, or bytes are left over behind them all.
  pub data SharedFault (deep : Error) : ℕ → ℕ → ℕ → List ℕ → Error → ℕ → Type 0 where
    shared_fault : (c nesting n : ℕ) (content : List ℕ) (cause : Error) (done left : ℕ) (after : List ℕ) → done < n
        → Behind (Row (IsData c nesting) done) content after → DataFault deep 0 c nesting after cause left
        → SharedFault deep c nesting n content (inside cause) left
    shared_over : (c nesting n : ℕ) (content after : List ℕ) → Behind (Row (IsData c nesting) n) content after → 0 < length after
        → SharedFault deep c nesting n content Size (length after)

-- The fault stands somewhere.
abbrev pub HasFault : Error → ℕ → List ℕ → Error → Type 0
HasFault deep nesting input e = (left : ℕ) × TermFault deep nesting input e left

-- The input ends where more must follow: behind at most 128 descriptors of a constructor, behind the 0 of a further one or
-- within its data, or within the data that the constructor announces.
pub data AsksMore (input : List ℕ) : Type 0 where
  for_code : (n : ℕ) → n ≤ 128 → Behind (HasMarks n) input [] → AsksMore input
  for_descriptor : (n : ℕ) → n < 128 → Behind (HasMarks n) input (0 ∷ []) → AsksMore input
  for_descriptor_data : (n c : ℕ) (after : List ℕ) → n < 128 → Behind (HasMarks n) input (0 ∷ c ∷ after) → IsDescriptorCode c
      → Wants (format c) after → AsksMore input
  for_data : (n c : ℕ) (after : List ℕ) → Behind (Constructs n c) input after → Wants (format c) after → AsksMore input
