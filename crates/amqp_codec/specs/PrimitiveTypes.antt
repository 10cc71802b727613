-- The types of primitives (Part 1, section 1.6).
use Rattle.std.proofs.Common.{◌≡◌, ℕ, ℤ, pos, Bool, true, false, List, [], refl, sym, ap, ◌∙◌, arith}
use Rattle.amqp_model.specs.Term.{Primitive, null, boolean, ubyte, ushort, uint, ulong, byte, short, int, long, char, timestamp, decimal32}
use Rattle.amqp_model.specs.Term.{decimal64, decimal128, uuid, binary, string, symbol, Term, leaf}
use Rattle.amqp_model.specs.Ranges.{IsInRange}
use Rattle.amqp_model.specs.Items.{is_null_primitive}
use Rattle.amqp_lookahead.specs.Kinds.{nulls, booleans, ubytes, ushorts, uints, ulongs, bytes, shorts, ints, longs, decimals32, decimals64}
use Rattle.amqp_lookahead.specs.Kinds.{decimals128, chars, timestamps, uuids, binaries, strings, symbols}
use Rattle.amqp_decoder.specs.Primitives.{PrimitiveFault}
use Rattle.amqp_decoder.proofs.NotOutside.{primitive_not_outside}
use Rattle.amqp_decoder.proofs.Misspelled.{primitive_misspelled}
use Rattle.amqp_decoder.specs.laws.OtherSource.{primitive_fault}
use Rattle.amqp_decoder.specs.Places.{Here}
use Rattle.amqp_codec.specs.ExactType.{MeansExactly, IsExact, exact}
use Rattle.amqp_codec.specs.Faults.{Faults}
use Rattle.amqp_codec.specs.laws.PrimitiveTerm.{leaf_injective, leaf_writable}
use Rattle.amqp_codec.specs.TermType.{TermType, view_of, equality}
use Rattle.amqp_codec.specs.laws.Within.{here_within}

-- The values of A in the range are the primitives of one kind, which are null or not.
pub record IsKind {A : Type 0} (make : A → Primitive) (range : A → Type 0) (is_never_null : Bool) : Type 0 where
  pub injective : (v w : A) → make v ≡ make w → v ≡ w
  pub in_range : (v : A) → range v → IsInRange (make v)
  pub not_null : is_never_null ≡ true → (v : A) → is_null_primitive (make v) ≡ false

-- Why no primitive of a kind is read.
abbrev pub primitive_faults : ℕ → Faults
primitive_faults k = record {
  fault = Here (PrimitiveFault k);
  not_outside = λ e out st h. primitive_not_outside out k st h.0;
  fault_elsewhere = λ c st e keeps h. (primitive_fault c keeps h.0, h.1);
  misspelled = λ st e _ i h. primitive_misspelled k st e.error i h.0;
  within = here_within (PrimitiveFault k);
}

module _ {A : Type 0} (make : A → Primitive) (range : A → Type 0) {is_never_null : Bool} (laws : IsKind make range is_never_null) where
  abbrev primitive_canon : A → Term
  primitive_canon v = leaf (make v)

  pub primitive_exact : IsExact range range primitive_canon (λ v w. v ≡ w) (λ _. 1) is_never_null
  primitive_exact = record {
    sameness = equality (view_of range (MeansExactly range primitive_canon) primitive_canon)
        (λ s t v w h k. laws.injective v w (leaf_injective (make v) (make w) (sym h.0 ∙ k.0)));
    value = λ v i. i;
    meant = λ v i f. i;
    plain = λ v. tt;
    not_null = laws.not_null;
    valued = laws.in_range;
    free = λ v i r h. h;
    writable = λ v s i h r. leaf_writable s (primitive_canon v) (make v) r h refl;
    counted = λ v. omega arith;
  }

  -- kind: of those of Part 1, section 1.6
  abbrev pub primitive_type : (kind : ℕ) (takes_memory : Bool) → TermType A
  primitive_type kind takes_memory = exact primitive_exact (primitive_faults kind) takes_memory

-- A primitive type of the standard: the values of A that are in their range are its primitives, none of which is null.
pub record Base (A : Type 0) : Type 0 where
  pub make : A → Primitive
  -- of those of Part 1, section 1.6
  pub kind : ℕ
  pub injective : (v w : A) → make v ≡ make w → v ≡ w
  pub not_null : (v : A) → is_null_primitive (make v) ≡ false

-- The value is in the range of its kind.
abbrev pub IsOf : {A : Type 0} → Base A → A → Type 0
IsOf base v = IsInRange (base.make v)

pub base_is_kind : {A : Type 0} (base : Base A) → IsKind base.make (IsOf base) true
base_is_kind base = record { injective = base.injective; in_range = λ v i. i; not_null = λ _. base.not_null }

-- The type of the values that are in their range.
abbrev pub primitive_of : {A : Type 0} → Base A → (takes_memory : Bool) → TermType A
primitive_of base = primitive_type base.make (IsOf base) (base_is_kind base) base.kind

-- What a primitive is made of.
abbrev pub truth : Primitive → Bool
truth (boolean b) = b
truth _ = false

abbrev pub number : Primitive → ℕ
number (ubyte n) = n
number (ushort n) = n
number (uint n) = n
number (ulong n) = n
number (char n) = n
number _ = 0

abbrev pub integer : Primitive → ℤ
integer (byte z) = z
integer (short z) = z
integer (int z) = z
integer (long z) = z
integer (timestamp z) = z
integer _ = pos 0

abbrev pub content : Primitive → List ℕ
content (decimal32 b) = b
content (decimal64 b) = b
content (decimal128 b) = b
content (uuid b) = b
content (binary b) = b
content (string b) = b
content (symbol b) = b
content _ = []

-- Part 1, sections 1.6.2 to 1.6.21. A symbol that isn't ASCII is a value that can't be written.
abbrev pub boolean_base : Base Bool
boolean_base = record { make = boolean; kind = booleans; injective = λ v w. ap truth; not_null = λ v. refl }

abbrev pub ubyte_base : Base ℕ
ubyte_base = record { make = ubyte; kind = ubytes; injective = λ v w. ap number; not_null = λ v. refl }

abbrev pub ushort_base : Base ℕ
ushort_base = record { make = ushort; kind = ushorts; injective = λ v w. ap number; not_null = λ v. refl }

abbrev pub uint_base : Base ℕ
uint_base = record { make = uint; kind = uints; injective = λ v w. ap number; not_null = λ v. refl }

abbrev pub ulong_base : Base ℕ
ulong_base = record { make = ulong; kind = ulongs; injective = λ v w. ap number; not_null = λ v. refl }

abbrev pub byte_base : Base ℤ
byte_base = record { make = byte; kind = bytes; injective = λ v w. ap integer; not_null = λ v. refl }

abbrev pub short_base : Base ℤ
short_base = record { make = short; kind = shorts; injective = λ v w. ap integer; not_null = λ v. refl }

abbrev pub int_base : Base ℤ
int_base = record { make = int; kind = ints; injective = λ v w. ap integer; not_null = λ v. refl }

abbrev pub long_base : Base ℤ
long_base = record { make = long; kind = longs; injective = λ v w. ap integer; not_null = λ v. refl }

abbrev pub decimal32_base : Base (List ℕ)
decimal32_base = record { make = decimal32; kind = decimals32; injective = λ v w. ap content; not_null = λ v. refl }

abbrev pub decimal64_base : Base (List ℕ)
decimal64_base = record { make = decimal64; kind = decimals64; injective = λ v w. ap content; not_null = λ v. refl }

abbrev pub decimal128_base : Base (List ℕ)
decimal128_base = record { make = decimal128; kind = decimals128; injective = λ v w. ap content; not_null = λ v. refl }

abbrev pub char_base : Base ℕ
char_base = record { make = char; kind = chars; injective = λ v w. ap number; not_null = λ v. refl }

abbrev pub timestamp_base : Base ℤ
timestamp_base = record { make = timestamp; kind = timestamps; injective = λ v w. ap integer; not_null = λ v. refl }

abbrev pub uuid_base : Base (List ℕ)
uuid_base = record { make = uuid; kind = uuids; injective = λ v w. ap content; not_null = λ v. refl }

abbrev pub binary_base : Base (List ℕ)
binary_base = record { make = binary; kind = binaries; injective = λ v w. ap content; not_null = λ v. refl }

abbrev pub string_base : Base (List ℕ)
string_base = record { make = string; kind = strings; injective = λ v w. ap content; not_null = λ v. refl }

abbrev pub symbol_base : Base (List ℕ)
symbol_base = record { make = symbol; kind = symbols; injective = λ v w. ap content; not_null = λ v. refl }

-- The types that are their primitives, and those of which others are made: milliseconds since 1970, and bytes.
abbrev pub boolean_type : TermType Bool
boolean_type = primitive_of boolean_base false

abbrev pub ubyte_type : TermType ℕ
ubyte_type = primitive_of ubyte_base false

abbrev pub ushort_type : TermType ℕ
ushort_type = primitive_of ushort_base false

abbrev pub uint_type : TermType ℕ
uint_type = primitive_of uint_base false

abbrev pub ulong_type : TermType ℕ
ulong_type = primitive_of ulong_base false

abbrev pub byte_type : TermType ℤ
byte_type = primitive_of byte_base false

abbrev pub short_type : TermType ℤ
short_type = primitive_of short_base false

abbrev pub int_type : TermType ℤ
int_type = primitive_of int_base false

abbrev pub long_type : TermType ℤ
long_type = primitive_of long_base false

abbrev pub char_type : TermType ℕ
char_type = primitive_of char_base false

abbrev pub milliseconds_type : TermType ℤ
milliseconds_type = primitive_of timestamp_base false

abbrev pub decimal32_bytes_type : TermType (List ℕ)
decimal32_bytes_type = primitive_of decimal32_base false

abbrev pub decimal64_bytes_type : TermType (List ℕ)
decimal64_bytes_type = primitive_of decimal64_base false

abbrev pub decimal128_bytes_type : TermType (List ℕ)
decimal128_bytes_type = primitive_of decimal128_base false

abbrev pub uuid_bytes_type : TermType (List ℕ)
uuid_bytes_type = primitive_of uuid_base false

abbrev pub binary_bytes_type : TermType (List ℕ)
binary_bytes_type = primitive_of binary_base true

abbrev pub string_bytes_type : TermType (List ℕ)
string_bytes_type = primitive_of string_base true

abbrev pub symbol_bytes_type : TermType (List ℕ)
symbol_bytes_type = primitive_of symbol_base true

-- Part 1, section 1.6.1: null, by the one value of a type
pub null_is_kind : IsKind (λ (_ : Unit {0}). null) (λ _. Unit {0}) false
null_is_kind = record { injective = λ v w e. refl; in_range = λ v i. i; not_null = λ n. cc }

abbrev pub null_type : TermType (Unit {0})
null_type = primitive_type (λ (_ : Unit {0}). null) (λ _. Unit {0}) null_is_kind nulls false
