-- Which kind of primitive a code announces (Part 1, section 1.6).
use Rattle.std.specs.Prelude.{ℕ, zero, suc, Bool, false, cond, eqb, List, [], ◌∷◌, Option, Some, None, option_map}
use Rattle.amqp_model.specs.Term.{Primitive, null, boolean, ubyte, ushort, uint, ulong, byte, short, int, long, char, timestamp, decimal32}
use Rattle.amqp_model.specs.Term.{decimal64, decimal128, uuid, binary, string, symbol}
use Rattle.amqp_model.specs.Constructors.{Format, fixed, variable, compound, unknown, format, constructors}

-- The kinds, by their places among those of section 1.6.
abbrev pub nulls : ℕ
nulls = 0

abbrev pub booleans : ℕ
booleans = 1

abbrev pub ubytes : ℕ
ubytes = 2

abbrev pub ushorts : ℕ
ushorts = 3

abbrev pub uints : ℕ
uints = 4

abbrev pub ulongs : ℕ
ulongs = 5

abbrev pub bytes : ℕ
bytes = 6

abbrev pub shorts : ℕ
shorts = 7

abbrev pub ints : ℕ
ints = 8

abbrev pub longs : ℕ
longs = 9

abbrev pub decimals32 : ℕ
decimals32 = 10

abbrev pub decimals64 : ℕ
decimals64 = 11

abbrev pub decimals128 : ℕ
decimals128 = 12

abbrev pub chars : ℕ
chars = 13

abbrev pub timestamps : ℕ
timestamps = 14

abbrev pub uuids : ℕ
uuids = 15

abbrev pub binaries : ℕ
binaries = 16

abbrev pub strings : ℕ
strings = 17

abbrev pub symbols : ℕ
symbols = 18

-- The kind of a primitive.
abbrev pub kind_of : Primitive → ℕ
kind_of null = nulls
kind_of (boolean b) = booleans
kind_of (ubyte n) = ubytes
kind_of (ushort n) = ushorts
kind_of (uint n) = uints
kind_of (ulong n) = ulongs
kind_of (byte z) = bytes
kind_of (short z) = shorts
kind_of (int z) = ints
kind_of (long z) = longs
kind_of (decimal32 b) = decimals32
kind_of (decimal64 b) = decimals64
kind_of (decimal128 b) = decimals128
kind_of (char n) = chars
kind_of (timestamp z) = timestamps
kind_of (uuid b) = uuids
kind_of (binary s) = binaries
kind_of (string s) = strings
kind_of (symbol s) = symbols

abbrev pub zeros : ℕ → List ℕ
zeros zero = []
zeros (suc n) = 0 ∷ zeros n

-- The kind of what stands under a format, by some data of it.
abbrev pub kind_under : Format → Option ℕ
kind_under (fixed width value) = option_map kind_of (value (zeros width))
kind_under (variable width value) = option_map kind_of (value [])
kind_under (compound kind width) = None
kind_under unknown = None

-- The kind of the primitives that stand under a code.
unfoldable pub kind_at : ℕ → Option ℕ
kind_at c = kind_under (format c)

abbrev pub is_kind : ℕ → Option ℕ → Bool
is_kind k None = false
is_kind k (Some n) = eqb n k

-- The codes of a kind.
abbrev pub codes_in : ℕ → List (ℕ × Format) → List ℕ
codes_in k [] = []
codes_in k (row ∷ rows) = cond (is_kind k (kind_under row.1)) (row.0 ∷ codes_in k rows) (codes_in k rows)

abbrev pub codes_of : ℕ → List ℕ
codes_of k = codes_in k constructors
