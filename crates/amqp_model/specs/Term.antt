-- Values without their bytes.
use Rattle.std.specs.Prelude.{ℕ, suc, ℤ, List, Bool}

-- Part 1, sections 1.6.1 to 1.6.21, without float and double: a value that holds no other.
-- A char is its code point, a string its UTF-8 bytes, a decimal or uuid its bytes.
pub data Primitive : Type 0 where
  null : Primitive
  boolean : Bool → Primitive
  ubyte ushort uint ulong : ℕ → Primitive
  byte short int long : ℤ → Primitive
  char : ℕ → Primitive
  timestamp : ℤ → Primitive
  decimal32 decimal64 decimal128 uuid : List ℕ → Primitive
  binary string symbol : List ℕ → Primitive

-- Part 1, section 1.5: what a described value begins with, a symbol or a ulong.
pub data Descriptor : Type 0 where
  name : List ℕ → Descriptor
  code : ℕ → Descriptor

-- Part 1, sections 1.6.22 to 1.6.24: the kinds of value that hold others.
pub data Container : Type 0 where
  list map array : Container

-- Why a value has no canonical text.
pub data Refusal : Type 0 where
  duplicate_key depth zero_width_items non_ascii empty_multiple mixed_array too_large lazy_in_array : Refusal
  custom : ℕ → Refusal

-- Part 1, section 1.1: a value without widths and sizes. A map holds its keys and values in turn.
-- Two kinds stand in canonical terms alone: `kept`, the bytes of a value that is written as it was read,
-- and `barred`, a value that has no canonical term, with the reason.
mutual
  pub data Term : Type 0 where
    leaf : Primitive → Term
    container : Container → Terms → Term
    described : Descriptor → Term → Term
    kept : List ℕ → Term
    barred : Refusal → Term

  pub data Terms : Type 0 where
    none : Terms
    more : Term → Terms → Terms

-- How many terms there are.
abbrev pub count : Terms → ℕ
count none = 0
count (more t ts) = suc (count ts)
