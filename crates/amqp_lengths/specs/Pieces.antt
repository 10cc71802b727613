-- Numbers, sizes, primitives and descriptors.
use Rattle.std.specs.Prelude.{◌≡◌, ℕ, ◌<◌, ◌/◌, ◌^◌, ◌⊎◌, Bool, cond, eqb, List, ◌++◌, length, Option, Some, None}
use Rattle.std.specs.Int.{bytes_high_first}
use Rattle.amqp_model.specs.Term.{Primitive, Descriptor}
use Rattle.amqp_model.specs.Constructors.{Format, fixed, variable, compound, unknown, format}
use Rattle.amqp_model.specs.Spelling.{IsValid, PrimitiveData, Names}

-- How many bytes a size or a count has.
abbrev pub width_of : Bool → ℕ
width_of wide = cond wide 4 1

-- The bytes are a number of this width.
abbrev pub IsNumber : ℕ → ℕ → List ℕ → Type 0
IsNumber w n b = (n < 256 ^ w) × (b ≡ bytes_high_first w n)

-- The bytes are a size of this width and the content that it announces.
abbrev pub IsSized : ℕ → List ℕ → List ℕ → Type 0
IsSized w content b = (length content < 256 ^ w) × (b ≡ bytes_high_first w (length content) ++ content)

abbrev pub HasSize : ℕ → List ℕ → Type 0
HasSize w b = (content : List ℕ) × IsSized w content b

-- Part 1, section 1.2: the width that the high half of a code of a fixed width says.
abbrev pub fixed_width : ℕ → ℕ
fixed_width c =
    cond (eqb (c / 16) 4) 0 (cond (eqb (c / 16) 5) 1 (cond (eqb (c / 16) 6) 2 (cond (eqb (c / 16) 7) 4 (cond (eqb (c / 16) 8) 8 16))))

-- A format whose data holds no other values.
abbrev pub IsPrimitive : Format → Type 0
IsPrimitive (fixed w value) = Unit {0}
IsPrimitive (variable w value) = Unit {0}
IsPrimitive (compound kind w) = ⊥
IsPrimitive unknown = ⊥

abbrev pub value_of : Format → List ℕ → Option Primitive
value_of (fixed w value) b = value b
value_of (variable w value) b = value b
value_of (compound kind w) b = None
value_of unknown b = None

-- The bytes, which follow the size if there is one, are a value.
abbrev pub IsValue : Format → List ℕ → Type 0
IsValue F b = (p : Primitive) × (value_of F b ≡ Some p) × IsValid p

-- There are as many bytes as a format of a fixed width has.
abbrev pub HasWidth : Format → List ℕ → Type 0
HasWidth (fixed w value) b = length b ≡ w
HasWidth (variable w value) b = Unit {0}
HasWidth (compound kind w) b = Unit {0}
HasWidth unknown b = Unit {0}

-- The data of a primitive under a code.
abbrev pub PrimitiveOf : ℕ → List ℕ → Type 0
PrimitiveOf c b = (p : Primitive) × PrimitiveData (format c) p b

-- The data of a primitive under a format, and in it the bytes that are its value.
abbrev pub HoldsBytes : Format → List ℕ → List ℕ → Type 0
HoldsBytes (fixed w value) content b = (length content ≡ w) × (b ≡ content)
HoldsBytes (variable w value) content b = IsSized w content b
HoldsBytes (compound kind w) content b = ⊥
HoldsBytes unknown content b = ⊥

-- Part 1, section 1.5: the codes of ulongs and symbols.
abbrev pub IsDescriptorCode : ℕ → Type 0
IsDescriptorCode c = (c ≡ 0x44) ⊎ (c ≡ 0x53) ⊎ (c ≡ 0x80) ⊎ (c ≡ 0xa3) ⊎ (c ≡ 0xb3)

-- The bytes of a descriptor.
abbrev pub NamesAny : List ℕ → Type 0
NamesAny b = (d : Descriptor) × Names d b
