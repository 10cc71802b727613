-- Which bytes spell a term: all spellings that the standard allows.
use Rattle.std.specs.Prelude.{◌≡◌, ℕ, zero, ◌+◌, ◌^◌, ◌%◌, ◌<◌, ◌≤◌, ◌⊎◌, List, [], ◌∷◌, ◌++◌, length, Some, IsUtf8, IsAscii}
use Rattle.std.specs.Int.{bytes_high_first}
use Rattle.std.specs.Char.{IsScalar}
use Rattle.amqp_model.specs.Term.{Primitive, ulong, char, string, symbol, Container, list, map, array, Term, Terms, leaf, container}
use Rattle.amqp_model.specs.Term.{described, none, more, Descriptor, name, code, count}
use Rattle.amqp_model.specs.Constructors.{Format, fixed, variable, compound, unknown, format}

-- Bytes of the one kind, and then bytes of the other.
abbrev pub Joined : (List ℕ → Type 0) → (List ℕ → Type 0) → List ℕ → Type 0
Joined First Second b = (first second : List ℕ) × (b ≡ first ++ second) × First first × Second second

-- Part 1, sections 1.6.16, 1.6.20, 1.6.21: a char is a Unicode scalar value, a string UTF-8, a symbol ASCII.
abbrev pub IsValid : Primitive → Type 0
IsValid (char c) = IsScalar c
IsValid (string s) = IsUtf8 s
IsValid (symbol s) = IsAscii s
IsValid _ = Unit {0}

-- Part 1, sections 1.2.1 and 1.2.2: b is the data of a primitive under a format.
abbrev pub PrimitiveData : Format → Primitive → List ℕ → Type 0
PrimitiveData (fixed width value) p b = (length b ≡ width) × (value b ≡ Some p) × IsValid p
PrimitiveData (variable width value) p b =
    (content : List ℕ) × (length content < 256 ^ width) × (b ≡ bytes_high_first width (length content) ++ content)
    × (value content ≡ Some p) × IsValid p
PrimitiveData (compound kind width) p b = ⊥
PrimitiveData unknown p b = ⊥

-- Part 1, section 1.2.3: the size is exactly that of the count and the content. A list without items may say 0.
abbrev pub IsSize : Container → ℕ → ℕ → List ℕ → ℕ → Type 0
IsSize kind width n content size = (size ≡ width + length content) ⊎ ((kind ≡ list) × (n ≡ 0) × (content ≡ []) × (size ≡ 0))

-- Part 1, sections 1.2.3 and 1.2.4: b is the size, the count and the content of a container of n items under a format.
abbrev pub ContainerData : Format → Container → ℕ → (List ℕ → Type 0) → List ℕ → Type 0
ContainerData (compound kind' width) kind n Content b =
    (kind' ≡ kind) × (size : ℕ) × (content : List ℕ) × IsSize kind width n content size × Content content
    × (size < 256 ^ width) × (n < 256 ^ width)
    × (b ≡ bytes_high_first width size ++ (bytes_high_first width n ++ content))
ContainerData (fixed width value) kind n Content b = ⊥
ContainerData (variable width value) kind n Content b = ⊥
ContainerData unknown kind n Content b = ⊥

-- Part 1, section 1.6: a format of the table.
abbrev pub IsKnown : Format → Type 0
IsKnown unknown = ⊥
IsKnown _ = Unit {0}

-- A format with no bytes of data.
abbrev pub HasWidthZero : Format → Type 0
HasWidthZero (fixed zero value) = Unit {0}
HasWidthZero (variable zero value) = Unit {0}
HasWidthZero (compound kind zero) = Unit {0}
HasWidthZero _ = ⊥

-- Part 1, section 1.5: a descriptor is a symbol or a ulong.
abbrev pub descriptor_value : Descriptor → Primitive
descriptor_value (name s) = symbol s
descriptor_value (code n) = ulong n

-- Part 1, section 1.5: b is a descriptor, in any of its spellings.
abbrev pub Names : Descriptor → List ℕ → Type 0
Names d b = (c : ℕ) × (data_ : List ℕ) × (b ≡ c ∷ data_) × PrimitiveData (format c) (descriptor_value d) data_

-- Part 1, section 1.2: b is a constructor, descriptors, each after a 0, and then a format code.
abbrev pub Constructor : List Descriptor → ℕ → List ℕ → Type 0
Constructor [] c b = (b ≡ c ∷ []) × IsKnown (format c)
Constructor (d ∷ ds) c b = (first second : List ℕ) × (b ≡ 0 ∷ (first ++ second)) × Names d first × Constructor ds c second

-- A constructor of at most 128 descriptors, and then the data that it announces.
abbrev pub Spelled : (List Descriptor → ℕ → List ℕ → Type 0) → List ℕ → Type 0
Spelled Data b =
    (ds : List Descriptor) × (c : ℕ) × (length ds ≤ 128) × Joined (Constructor ds c) (Data ds c) b

-- IsDataOf t ds c b: b is the data of t under the constructor of the descriptors ds and the code c.
-- Part 1, section 1.6.23: a map has a value for each key.
abbrev mutual
  pub IsDataOf : Term → List Descriptor → ℕ → List ℕ → Type 0
  IsDataOf (leaf p) [] c b = PrimitiveData (format c) p b
  IsDataOf (container list ts) [] c b = ContainerData (format c) list (count ts) (AreItemsOf ts) b
  IsDataOf (container map ts) [] c b = (count ts % 2 ≡ 0) × ContainerData (format c) map (count ts) (AreItemsOf ts) b
  IsDataOf (container array ts) [] c b = ContainerData (format c) array (count ts) (AreElementsOf ts) b
  IsDataOf (described d t) (e ∷ ds) c b = (d ≡ e) × IsDataOf t ds c b
  IsDataOf _ _ c b = ⊥

  -- Part 1, section 1.2.3: the items of a list or map, each with its own constructor.
  pub AreItemsOf : Terms → List ℕ → Type 0
  AreItemsOf none b = b ≡ []
  AreItemsOf (more t ts) b = Joined (Spelled (λ ds c. IsDataOf t ds c)) (AreItemsOf ts) b

  -- Part 1, section 1.2.4: the items of an array, under one constructor, whose code isn't of width zero.
  -- An array without items has one constructor or nothing.
  pub AreElementsOf : Terms → List ℕ → Type 0
  AreElementsOf none b = (b ≡ []) ⊎ Spelled (λ ds c d. d ≡ []) b
  AreElementsOf (more t ts) b = Spelled (λ ds c d. (HasWidthZero (format c) → ⊥) × Joined (IsDataOf t ds c) (AreSharedDataOf ts ds c) d) b

  pub AreSharedDataOf : Terms → List Descriptor → ℕ → List ℕ → Type 0
  AreSharedDataOf none ds c b = b ≡ []
  AreSharedDataOf (more t ts) ds c b = Joined (IsDataOf t ds c) (AreSharedDataOf ts ds c) b

-- b spells t.
unfoldable pub IsSpelling : List ℕ → Term → Type 0
IsSpelling b t = Spelled (IsDataOf t) b
