-- The table of constructors.
use Rattle.std.specs.Prelude.{ℕ, zero, suc, ℤ, List, [], ◌∷◌, true, false, cond, eqb, Option, Some, None}
use Rattle.std.specs.Int.{Width, w8, w16, w32, w64, from_be_bytes, cast_signed}
use Rattle.amqp_model.specs.Term.{Primitive, null, boolean, ubyte, ushort, uint, ulong, byte, short, int, long, char, timestamp, decimal32}
use Rattle.amqp_model.specs.Term.{decimal64, decimal128, uuid, binary, string, symbol, Container, list, map, array}

-- Part 1, sections 1.2.1 to 1.2.4: what a format code announces. Either data of a fixed width, or a size of this width
-- and then as many bytes as it says, in both cases with the value that the bytes are;
-- or a container whose size and count have this width each (none: an empty list).
pub data Format : Type 0 where
  fixed : ℕ → (List ℕ → Option Primitive) → Format
  variable : ℕ → (List ℕ → Option Primitive) → Format
  compound : Container → ℕ → Format
  unknown : Format

-- Numbers stand with the highest byte first, signed ones in two's complement.
abbrev pub unsigned : Width → (ℕ → Primitive) → List ℕ → Option Primitive
unsigned w make b = Some (make (from_be_bytes w b))

abbrev pub signed : Width → (ℤ → Primitive) → List ℕ → Option Primitive
signed w make b = Some (make (cast_signed w (from_be_bytes w b)))

-- Part 1, section 1.6.2: a boolean's byte is 0 or 1.
abbrev pub boolean_byte : List ℕ → Option Primitive
boolean_byte (zero ∷ []) = Some (boolean false)
boolean_byte (suc zero ∷ []) = Some (boolean true)
boolean_byte _ = None

-- Part 1, section 1.6: the codes of every type but float (0x72) and double (0x82).
abbrev pub constructors : List (ℕ × Format)
constructors =
    (0x40, fixed 0 (λ b. Some null))
    ∷ (0x41, fixed 0 (λ b. Some (boolean true)))
    ∷ (0x42, fixed 0 (λ b. Some (boolean false)))
    ∷ (0x43, fixed 0 (λ b. Some (uint 0)))
    ∷ (0x44, fixed 0 (λ b. Some (ulong 0)))
    ∷ (0x45, compound list 0)
    ∷ (0x50, fixed 1 (unsigned w8 ubyte))
    ∷ (0x51, fixed 1 (signed w8 byte))
    ∷ (0x52, fixed 1 (unsigned w8 uint))
    ∷ (0x53, fixed 1 (unsigned w8 ulong))
    ∷ (0x54, fixed 1 (signed w8 int))
    ∷ (0x55, fixed 1 (signed w8 long))
    ∷ (0x56, fixed 1 boolean_byte)
    ∷ (0x60, fixed 2 (unsigned w16 ushort))
    ∷ (0x61, fixed 2 (signed w16 short))
    ∷ (0x70, fixed 4 (unsigned w32 uint))
    ∷ (0x71, fixed 4 (signed w32 int))
    ∷ (0x73, fixed 4 (unsigned w32 char))
    ∷ (0x74, fixed 4 (λ b. Some (decimal32 b)))
    ∷ (0x80, fixed 8 (unsigned w64 ulong))
    ∷ (0x81, fixed 8 (signed w64 long))
    ∷ (0x83, fixed 8 (signed w64 timestamp))
    ∷ (0x84, fixed 8 (λ b. Some (decimal64 b)))
    ∷ (0x94, fixed 16 (λ b. Some (decimal128 b)))
    ∷ (0x98, fixed 16 (λ b. Some (uuid b)))
    ∷ (0xa0, variable 1 (λ b. Some (binary b)))
    ∷ (0xa1, variable 1 (λ b. Some (string b)))
    ∷ (0xa3, variable 1 (λ b. Some (symbol b)))
    ∷ (0xb0, variable 4 (λ b. Some (binary b)))
    ∷ (0xb1, variable 4 (λ b. Some (string b)))
    ∷ (0xb3, variable 4 (λ b. Some (symbol b)))
    ∷ (0xc0, compound list 1)
    ∷ (0xc1, compound map 1)
    ∷ (0xd0, compound list 4)
    ∷ (0xd1, compound map 4)
    ∷ (0xe0, compound array 1)
    ∷ (0xf0, compound array 4)
    ∷ []

abbrev pub look_up : ℕ → List (ℕ × Format) → Format
look_up c [] = unknown
look_up c (row ∷ rows) = cond (eqb c row.0) row.1 (look_up c rows)

-- What a code announces.
abbrev pub format : ℕ → Format
format c = look_up c constructors
