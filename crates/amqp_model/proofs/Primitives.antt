-- The canonical data of a primitive is its data.
use Rattle.std.proofs.Common.{◌≡◌, ℕ, ◌^◌, ◌<◌, List, [], length, refl, sym, ap, ◌∙◌, Some, Bool, true, false, cond, eqb, ltb, mod-eq_of_lt}
use Rattle.std.proofs.Common.{ℤ, pos, negsuc, FitsSigned, IsAscii}
use Rattle.std.proofs.lemmas.Bool.{cond_both, eqb-true, ltb-true}
use Rattle.std.proofs.lemmas.Nat.{from_be_bytes-to_be_bytes_2, from_be_bytes-to_be_bytes_4, from_be_bytes-to_be_bytes_8}
use Rattle.std.proofs.lemmas.Int.{to_z-of_z}
use Rattle.std.proofs.Math.Facts.{Fits-of_z}
use Rattle.std.proofs.Math.Utf8.{scalar_fits}
use Rattle.std.specs.Int.{w8, w16, w32, w64, to_be_bytes, from_be_bytes, cast_signed, cast_unsigned}
use Rattle.amqp_model.specs.Term.{Primitive, null, boolean, ubyte, ushort, uint, ulong, byte, short, int, long, char, timestamp, decimal32}
use Rattle.amqp_model.specs.Term.{decimal64, decimal128, uuid, binary, string, symbol}
use Rattle.amqp_model.specs.Constructors.{format}
use Rattle.amqp_model.specs.Spelling.{PrimitiveData}
use Rattle.amqp_model.specs.Text.{wide, shortest, is_small, signed_bytes, with_size}
use Rattle.amqp_model.specs.Ranges.{IsInRange}

-- what writing asks of a primitive beside its range
abbrev pub IsWritten : Primitive → Type 0
IsWritten (binary s) = length s < 2 ^ 32
IsWritten (string s) = length s < 2 ^ 32
IsWritten (symbol s) = (length s < 2 ^ 32) × IsAscii s
IsWritten _ = Unit {0}

-- s is a code, and then data of p under it
abbrev pub IsSpelling : Primitive → ℕ × List ℕ → Type 0
IsSpelling p s = PrimitiveData (format s.0) p s.1

back_8 : (n : ℕ) → n < 2 ^ 8 → from_be_bytes w8 (to_be_bytes w8 n) ≡ n
back_8 n h = mod-eq_of_lt h

signed_8 : (z : ℤ) → FitsSigned w8 z → cast_signed w8 (from_be_bytes w8 (signed_bytes w8 z)) ≡ z
signed_8 z h = ap (cast_signed w8) (back_8 (cast_unsigned w8 z) (Fits-of_z {w = w8} h).fits) ∙ to_z-of_z w8 z h

signed_16 : (z : ℤ) → FitsSigned w16 z → cast_signed w16 (from_be_bytes w16 (signed_bytes w16 z)) ≡ z
signed_16 z h = ap (cast_signed w16) (from_be_bytes-to_be_bytes_2 (cast_unsigned w16 z) (Fits-of_z {w = w16} h).fits) ∙ to_z-of_z w16 z h

signed_32 : (z : ℤ) → FitsSigned w32 z → cast_signed w32 (from_be_bytes w32 (signed_bytes w32 z)) ≡ z
signed_32 z h = ap (cast_signed w32) (from_be_bytes-to_be_bytes_4 (cast_unsigned w32 z) (Fits-of_z {w = w32} h).fits) ∙ to_z-of_z w32 z h

signed_64 : (z : ℤ) → FitsSigned w64 z → cast_signed w64 (from_be_bytes w64 (signed_bytes w64 z)) ≡ z
signed_64 z h = ap (cast_signed w64) (from_be_bytes-to_be_bytes_8 (cast_unsigned w64 z) (Fits-of_z {w = w64} h).fits) ∙ to_z-of_z w64 z h

pub wide_spelling : (p : Primitive) → IsInRange p → IsWritten p → IsSpelling p (wide p)
wide_spelling null h f = (refl, refl, tt)
wide_spelling (boolean true) h f = (refl, refl, tt)
wide_spelling (boolean false) h f = (refl, refl, tt)
wide_spelling (ubyte n) h f = (refl, ap (λ m. Some (ubyte m)) (back_8 n h), tt)
wide_spelling (ushort n) h f = (refl, ap (λ m. Some (ushort m)) (from_be_bytes-to_be_bytes_2 n h), tt)
wide_spelling (uint n) h f = (refl, ap (λ m. Some (uint m)) (from_be_bytes-to_be_bytes_4 n h), tt)
wide_spelling (ulong n) h f = (refl, ap (λ m. Some (ulong m)) (from_be_bytes-to_be_bytes_8 n h), tt)
wide_spelling (byte z) h f = (refl, ap (λ m. Some (byte m)) (signed_8 z h), tt)
wide_spelling (short z) h f = (refl, ap (λ m. Some (short m)) (signed_16 z h), tt)
wide_spelling (int z) h f = (refl, ap (λ m. Some (int m)) (signed_32 z h), tt)
wide_spelling (long z) h f = (refl, ap (λ m. Some (long m)) (signed_64 z h), tt)
wide_spelling (char n) h f = (refl, ap (λ m. Some (char m)) (from_be_bytes-to_be_bytes_4 n (scalar_fits n h)), h)
wide_spelling (timestamp z) h f = (refl, ap (λ m. Some (timestamp m)) (signed_64 z h), tt)
wide_spelling (decimal32 b) h f = (h, refl, tt)
wide_spelling (decimal64 b) h f = (h, refl, tt)
wide_spelling (decimal128 b) h f = (h, refl, tt)
wide_spelling (uuid b) h f = (h, refl, tt)
wide_spelling (binary s) h f = (s, f, refl, refl, tt)
wide_spelling (string s) h f = (s, f, refl, refl, h)
wide_spelling (symbol s) h f = (s, f.0, refl, refl, f.1)

small_fits : (z : ℤ) → is_small z ≡ true → FitsSigned w8 z
small_fits (pos n) h = record { sfits = ltb-true n 128 h }
small_fits (negsuc n) h = record { sfits = ltb-true n 128 h }

-- of two spellings each is one where it comes
either : (p : Primitive) (test : Bool) (short_ long_ : ℕ × List ℕ) → (test ≡ true → IsSpelling p short_)
    → (test ≡ false → IsSpelling p long_) → IsSpelling p (cond test short_ long_)
either p test short_ long_ = cond_both test short_ long_ (IsSpelling p)

pub shortest_spelling : (p : Primitive) → IsInRange p → IsWritten p → IsSpelling p (shortest p)
shortest_spelling (boolean true) h f = (refl, refl, tt)
shortest_spelling (boolean false) h f = (refl, refl, tt)
shortest_spelling (uint n) h f =
    either (uint n) (eqb n 0) (0x43, []) (cond (ltb n 256) (0x52, to_be_bytes w8 n) (wide (uint n)))
    (λ e. (refl, ap (λ m. Some (uint m)) (sym (eqb-true n 0 e)), tt))
    (λ _. either (uint n) (ltb n 256) (0x52, to_be_bytes w8 n) (wide (uint n))
    (λ e. (refl, ap (λ m. Some (uint m)) (back_8 n (ltb-true n 256 e)), tt)) (λ _. wide_spelling (uint n) h f))
shortest_spelling (ulong n) h f =
    either (ulong n) (eqb n 0) (0x44, []) (cond (ltb n 256) (0x53, to_be_bytes w8 n) (wide (ulong n)))
    (λ e. (refl, ap (λ m. Some (ulong m)) (sym (eqb-true n 0 e)), tt))
    (λ _. either (ulong n) (ltb n 256) (0x53, to_be_bytes w8 n) (wide (ulong n))
    (λ e. (refl, ap (λ m. Some (ulong m)) (back_8 n (ltb-true n 256 e)), tt)) (λ _. wide_spelling (ulong n) h f))
shortest_spelling (int z) h f =
    either (int z) (is_small z) (0x54, signed_bytes w8 z) (wide (int z))
    (λ e. (refl, ap (λ m. Some (int m)) (signed_8 z (small_fits z e)), tt)) (λ _. wide_spelling (int z) h f)
shortest_spelling (long z) h f =
    either (long z) (is_small z) (0x55, signed_bytes w8 z) (wide (long z))
    (λ e. (refl, ap (λ m. Some (long m)) (signed_8 z (small_fits z e)), tt)) (λ _. wide_spelling (long z) h f)
shortest_spelling (binary s) h f =
    either (binary s) (ltb (length s) 256) (0xa0, with_size 1 s) (wide (binary s))
    (λ e. (s, ltb-true (length s) 256 e, refl, refl, tt)) (λ _. wide_spelling (binary s) h f)
shortest_spelling (string s) h f =
    either (string s) (ltb (length s) 256) (0xa1, with_size 1 s) (wide (string s))
    (λ e. (s, ltb-true (length s) 256 e, refl, refl, h)) (λ _. wide_spelling (string s) h f)
shortest_spelling (symbol s) h f =
    either (symbol s) (ltb (length s) 256) (0xa3, with_size 1 s) (wide (symbol s))
    (λ e. (s, ltb-true (length s) 256 e, refl, refl, f.1)) (λ _. wide_spelling (symbol s) h f)
shortest_spelling p h f = wide_spelling p h f
