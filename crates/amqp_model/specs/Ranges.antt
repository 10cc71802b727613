-- What holds everywhere in a term.
use Rattle.std.specs.Prelude.{◌≡◌, ℕ, ◌%◌, ◌^◌, ◌<◌, List, [], ◌∷◌, length, FitsSigned, IsUtf8}
use Rattle.std.specs.Int.{w8, w16, w32, w64}
use Rattle.std.specs.Char.{IsScalar}
use Rattle.amqp_model.specs.Term.{Primitive, ubyte, ushort, uint, ulong, byte, short, int, long, char, timestamp, decimal32, decimal64}
use Rattle.amqp_model.specs.Term.{decimal128, uuid, string, map, array, Term, Terms, leaf, container, described, none, more, count}
use Rattle.amqp_model.specs.Spelling.{descriptor_value}

-- P holds of each term in a term.
abbrev mutual
  pub Everywhere : (Term → Type 0) → Term → Type 0
  Everywhere P (container k ts) = P (container k ts) × EverywhereIn P ts
  Everywhere P (described d t) = P (described d t) × Everywhere P t
  Everywhere P t = P t

  pub EverywhereIn : (Term → Type 0) → Terms → Type 0
  EverywhereIn P none = Unit {0}
  EverywhereIn P (more t ts) = Everywhere P t × EverywhereIn P ts

-- Part 1, section 1.6: the number, text or bytes are of their type (that a symbol is ASCII is no part of it).
abbrev pub IsInRange : Primitive → Type 0
IsInRange (ubyte n) = n < 2 ^ 8
IsInRange (ushort n) = n < 2 ^ 16
IsInRange (uint n) = n < 2 ^ 32
IsInRange (ulong n) = n < 2 ^ 64
IsInRange (byte z) = FitsSigned w8 z
IsInRange (short z) = FitsSigned w16 z
IsInRange (int z) = FitsSigned w32 z
IsInRange (long z) = FitsSigned w64 z
IsInRange (char n) = IsScalar n
IsInRange (timestamp z) = FitsSigned w64 z
IsInRange (decimal32 b) = length b ≡ 4
IsInRange (decimal64 b) = length b ≡ 8
IsInRange (decimal128 b) = length b ≡ 16
IsInRange (uuid b) = length b ≡ 16
IsInRange (string s) = IsUtf8 s
IsInRange _ = Unit {0}

-- Part 1, section 1.6.23: what a term itself needs, its parts aside. A map has a value for each key.
abbrev pub IsValue : Term → Type 0
IsValue (leaf p) = IsInRange p
IsValue (container map ts) = count ts % 2 ≡ 0
IsValue (described d t) = IsInRange (descriptor_value d)
IsValue _ = Unit {0}

abbrev pub IsNoArray : Term → Type 0
IsNoArray (container array ts) = ⊥
IsNoArray _ = Unit {0}

-- The numbers are bytes.
abbrev pub IsBytes : List ℕ → Type 0
IsBytes [] = Unit {0}
IsBytes (x ∷ xs) = (x < 256) × IsBytes xs
