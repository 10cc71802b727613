-- No data of a primitive is shorter than its shortest.
use Rattle.std.proofs.Common.{◌≡◌, ℕ, ◌+◌, ◌^◌, ◌<◌, ◌≤◌, ◌⊎◌, inl, inr, List, [], ◌∷◌, length, get_or, refl, sym, ap, ◌∙◌, subst, arith}
use Rattle.std.proofs.Common.{suc, zero, Some, unwrap_or, Bool, true, false, cond, eqb, ltb, ℤ, pos, negsuc, FitsSigned, true≢false}
use Rattle.std.proofs.lemmas.Bool.{cond_both, ltb-false, lt-ltb}
use Rattle.std.proofs.Math.Facts.{sfits_to_z}
use Rattle.std.specs.Int.{w8, w16, w32, w64, to_be_bytes, from_be_bytes, cast_signed}
use Rattle.amqp_model.specs.Term.{Primitive, null, boolean, ubyte, ushort, uint, ulong, byte, short, int, long, char, timestamp, decimal32}
use Rattle.amqp_model.specs.Term.{decimal64, decimal128, uuid, binary, string, symbol, Container, list, map, array}
use Rattle.amqp_model.specs.Constructors.{Format, fixed, variable, compound, unknown, format, constructors, look_up, boolean_byte}
use Rattle.amqp_model.specs.Spelling.{PrimitiveData}
use Rattle.amqp_model.specs.Text.{wide, shortest, is_small, signed_bytes, with_size}
use Rattle.amqp_model.specs.Ranges.{IsBytes}
use Rattle.amqp_model.proofs.Lengths.{sized_length}

infixr 3 ◌⨾◌
-- what holds of each row holds of each code's format
unfoldable pub AllRows : (Format → Type 0) → List (ℕ × Format) → Type 0
AllRows P [] = P unknown
AllRows P (row ∷ rows) = P row.1 × AllRows P rows

pub ◌⨾◌ : {A B : Type 0} → A → B → A × B
first ⨾ others = (first, others)

pub each_row : (P : Format → Type 0) (rows : List (ℕ × Format)) → AllRows P rows → (c : ℕ) → P (look_up c rows)
unfolding AllRows
each_row P [] h c = h
each_row P (row ∷ rows) h c = cond_both (eqb c row.0) row.1 (look_up c rows) P (λ _. h.0) (λ _. each_row P rows h.1 c)

-- a size and a count take one byte or four, or none where there is nothing to count
abbrev pub IsWidth : Container → ℕ → Type 0
IsWidth k w = ((w ≡ 0) × (k ≡ list)) ⊎ ((w ≡ 1) ⊎ (w ≡ 4))

abbrev pub IsLeast : Format → Type 0
IsLeast (compound k w) = IsWidth k w
IsLeast F = (p : Primitive) (d : List ℕ) → IsBytes d → PrimitiveData F p d → length (shortest p).1 ≤ length d

byte_below : (b : List ℕ) → IsBytes b → get_or b 0 0 < 256
byte_below [] h = omega arith
byte_below (x ∷ b) h = h.0

made : (q p : Primitive) (n : ℕ) → Some q ≡ Some p → length (shortest q).1 ≤ n → length (shortest p).1 ≤ n
made q p n e h = subst (λ r. length (shortest r).1 ≤ n) (ap (λ o. unwrap_or o q) e) h

-- of two lengths each is enough where it comes
pub either : (test : Bool) (short long : ℕ × List ℕ) (n : ℕ) → (test ≡ true → length short.1 ≤ n) → (test ≡ false → length long.1 ≤ n)
    → length (cond test short long).1 ≤ n
either test short_ long_ n = cond_both test short_ long_ (λ s. length s.1 ≤ n)

uint_byte : (n : ℕ) → n < 256 → length (shortest (uint n)).1 ≤ 1
uint_byte n h =
    either (eqb n 0) (0x43, []) (cond (ltb n 256) (0x52, to_be_bytes w8 n) (wide (uint n))) 1 (λ _. omega arith)
    (λ _. either (ltb n 256) (0x52, to_be_bytes w8 n) (wide (uint n)) 1 (λ _. omega arith)
    (λ e. let f : 256 ≤ n = ltb-false n 256 e in absurd (omega arith)))

uint_any : (n : ℕ) → length (shortest (uint n)).1 ≤ 4
uint_any n =
    either (eqb n 0) (0x43, []) (cond (ltb n 256) (0x52, to_be_bytes w8 n) (wide (uint n))) 4 (λ _. omega arith)
    (λ _. either (ltb n 256) (0x52, to_be_bytes w8 n) (wide (uint n)) 4 (λ _. omega arith) (λ _. omega arith))

ulong_byte : (n : ℕ) → n < 256 → length (shortest (ulong n)).1 ≤ 1
ulong_byte n h =
    either (eqb n 0) (0x44, []) (cond (ltb n 256) (0x53, to_be_bytes w8 n) (wide (ulong n))) 1 (λ _. omega arith)
    (λ _. either (ltb n 256) (0x53, to_be_bytes w8 n) (wide (ulong n)) 1 (λ _. omega arith)
    (λ e. let f : 256 ≤ n = ltb-false n 256 e in absurd (omega arith)))

ulong_any : (n : ℕ) → length (shortest (ulong n)).1 ≤ 8
ulong_any n =
    either (eqb n 0) (0x44, []) (cond (ltb n 256) (0x53, to_be_bytes w8 n) (wide (ulong n))) 8 (λ _. omega arith)
    (λ _. either (ltb n 256) (0x53, to_be_bytes w8 n) (wide (ulong n)) 8 (λ _. omega arith) (λ _. omega arith))

small : (z : ℤ) → FitsSigned w8 z → is_small z ≡ true
small (pos n) h = lt-ltb n 128 h.sfits
small (negsuc n) h = lt-ltb n 128 h.sfits

-- a signed byte is small
read_small : (n : ℕ) → n < 256 → is_small (cast_signed w8 n) ≡ true
read_small n h = small (cast_signed w8 n) (sfits_to_z {w = w8} (record { fits = h }))

int_byte : (z : ℤ) → is_small z ≡ true → length (shortest (int z)).1 ≤ 1
int_byte z h = either (is_small z) (0x54, signed_bytes w8 z) (wide (int z)) 1 (λ _. omega arith) (λ e. absurd (true≢false (sym h ∙ e)))

int_any : (z : ℤ) → length (shortest (int z)).1 ≤ 4
int_any z = either (is_small z) (0x54, signed_bytes w8 z) (wide (int z)) 4 (λ _. omega arith) (λ _. omega arith)

long_byte : (z : ℤ) → is_small z ≡ true → length (shortest (long z)).1 ≤ 1
long_byte z h = either (is_small z) (0x55, signed_bytes w8 z) (wide (long z)) 1 (λ _. omega arith) (λ e. absurd (true≢false (sym h ∙ e)))

long_any : (z : ℤ) → length (shortest (long z)).1 ≤ 8
long_any z = either (is_small z) (0x55, signed_bytes w8 z) (wide (long z)) 8 (λ _. omega arith) (λ _. omega arith)

boolean_any : (b : List ℕ) (p : Primitive) → boolean_byte b ≡ Some p → length (shortest p).1 ≤ 1
boolean_any [] p e = cc
boolean_any (zero ∷ []) p e = made (boolean false) p 1 e (omega arith)
boolean_any (suc zero ∷ []) p e = made (boolean true) p 1 e (omega arith)
boolean_any (suc (suc n) ∷ []) p e = cc
boolean_any (zero ∷ x ∷ l) p e = cc
boolean_any (suc zero ∷ x ∷ l) p e = cc
boolean_any (suc (suc n) ∷ x ∷ l) p e = cc

text_short : (c : ℕ) (s : List ℕ) (w : ℕ × List ℕ) → length s < 256
    → length (cond (ltb (length s) 256) (c, with_size 1 s) w).1 ≤ 1 + length s
text_short c s w h =
    either (ltb (length s) 256) (c, with_size 1 s) w (1 + length s) (λ _. omega arith)
    (λ e. let f : 256 ≤ length s = ltb-false (length s) 256 e in absurd (omega arith))

text_any : (c : ℕ) (s : List ℕ) (w : ℕ × List ℕ) → length w.1 ≤ 4 + length s
    → length (cond (ltb (length s) 256) (c, with_size 1 s) w).1 ≤ 4 + length s
text_any c s w h = either (ltb (length s) 256) (c, with_size 1 s) w (4 + length s) (λ _. omega arith) (λ _. h)

sized : (w : ℕ) (make : List ℕ → Primitive) → ((s : List ℕ) → length s < 256 ^ w → length (shortest (make s)).1 ≤ w + length s)
    → IsLeast (variable w (λ s. Some (make s)))
sized w make most p d b (s, fits, e, v, _) =
    made (make s) p (length d) v (subst (λ n. length (shortest (make s)).1 ≤ n) (sym (sized_length w s d e)) (most s fits))

of_width : (w : ℕ) (make : List ℕ → Primitive) → ((d : List ℕ) → IsBytes d → length d ≡ w → length (shortest (make d)).1 ≤ w)
    → IsLeast (fixed w (λ d. Some (make d)))
of_width w make most p d b (e, v, _) = made (make d) p (length d) v (subst (λ n. length (shortest (make d)).1 ≤ n) (sym e) (most d b e))

boolean_row : IsLeast (fixed 1 boolean_byte)
boolean_row p d b h = subst (λ n. length (shortest p).1 ≤ n) (sym h.0) (boolean_any d p h.1)

no_width : (k : Container) → k ≡ list → IsLeast (compound k 0)
no_width k e = inl (refl, e)

one_byte : (k : Container) → IsLeast (compound k 1)
one_byte k = inr (inl refl)

four_bytes : (k : Container) → IsLeast (compound k 4)
four_bytes k = inr (inr refl)

no_format : IsLeast unknown
no_format p d b h = absurd h

all_least : AllRows IsLeast constructors
unfolding AllRows
all_least =
    of_width 0 (λ d. null) (λ d b e. omega arith)
    ⨾ of_width 0 (λ d. boolean true) (λ d b e. omega arith)
    ⨾ of_width 0 (λ d. boolean false) (λ d b e. omega arith)
    ⨾ of_width 0 (λ d. uint 0) (λ d b e. omega arith)
    ⨾ of_width 0 (λ d. ulong 0) (λ d b e. omega arith)
    ⨾ no_width list refl
    ⨾ of_width 1 (λ d. ubyte (from_be_bytes w8 d)) (λ d b e. omega arith)
    ⨾ of_width 1 (λ d. byte (cast_signed w8 (from_be_bytes w8 d))) (λ d b e. omega arith)
    ⨾ of_width 1 (λ d. uint (from_be_bytes w8 d)) (λ d b e. uint_byte (get_or d 0 0) (byte_below d b))
    ⨾ of_width 1 (λ d. ulong (from_be_bytes w8 d)) (λ d b e. ulong_byte (get_or d 0 0) (byte_below d b))
    ⨾ of_width 1 (λ d. int (cast_signed w8 (from_be_bytes w8 d)))
    (λ d b e. int_byte (cast_signed w8 (get_or d 0 0)) (read_small (get_or d 0 0) (byte_below d b)))
    ⨾ of_width 1 (λ d. long (cast_signed w8 (from_be_bytes w8 d)))
    (λ d b e. long_byte (cast_signed w8 (get_or d 0 0)) (read_small (get_or d 0 0) (byte_below d b)))
    ⨾ boolean_row
    ⨾ of_width 2 (λ d. ushort (from_be_bytes w16 d)) (λ d b e. omega arith)
    ⨾ of_width 2 (λ d. short (cast_signed w16 (from_be_bytes w16 d))) (λ d b e. omega arith)
    ⨾ of_width 4 (λ d. uint (from_be_bytes w32 d)) (λ d b e. uint_any (from_be_bytes w32 d))
    ⨾ of_width 4 (λ d. int (cast_signed w32 (from_be_bytes w32 d))) (λ d b e. int_any (cast_signed w32 (from_be_bytes w32 d)))
    ⨾ of_width 4 (λ d. char (from_be_bytes w32 d)) (λ d b e. omega arith)
    ⨾ of_width 4 (λ d. decimal32 d) (λ d b e. omega arith)
    ⨾ of_width 8 (λ d. ulong (from_be_bytes w64 d)) (λ d b e. ulong_any (from_be_bytes w64 d))
    ⨾ of_width 8 (λ d. long (cast_signed w64 (from_be_bytes w64 d))) (λ d b e. long_any (cast_signed w64 (from_be_bytes w64 d)))
    ⨾ of_width 8 (λ d. timestamp (cast_signed w64 (from_be_bytes w64 d))) (λ d b e. omega arith)
    ⨾ of_width 8 (λ d. decimal64 d) (λ d b e. omega arith)
    ⨾ of_width 16 (λ d. decimal128 d) (λ d b e. omega arith)
    ⨾ of_width 16 (λ d. uuid d) (λ d b e. omega arith)
    ⨾ sized 1 binary (λ s h. text_short 0xa0 s (wide (binary s)) h)
    ⨾ sized 1 string (λ s h. text_short 0xa1 s (wide (string s)) h)
    ⨾ sized 1 symbol (λ s h. text_short 0xa3 s (wide (symbol s)) h)
    ⨾ sized 4 binary (λ s h. text_any 0xa0 s (wide (binary s)) (omega arith))
    ⨾ sized 4 string (λ s h. text_any 0xa1 s (wide (string s)) (omega arith))
    ⨾ sized 4 symbol (λ s h. text_any 0xa3 s (wide (symbol s)) (omega arith))
    ⨾ one_byte list
    ⨾ one_byte map
    ⨾ four_bytes list
    ⨾ four_bytes map
    ⨾ one_byte array
    ⨾ four_bytes array
    ⨾ no_format

pub format_least : (c : ℕ) → IsLeast (format c)
format_least = each_row IsLeast constructors all_least

primitive_least : (F : Format) (p : Primitive) (d : List ℕ) → IsLeast F → IsBytes d → PrimitiveData F p d → length (shortest p).1 ≤ length d
primitive_least (fixed w v) p d least b h = least p d b h
primitive_least (variable w v) p d least b h = least p d b h
primitive_least (compound k w) p d least b h = absurd h
primitive_least unknown p d least b h = absurd h

pub shortest_least : (c : ℕ) (p : Primitive) (d : List ℕ) → IsBytes d → PrimitiveData (format c) p d → length (shortest p).1 ≤ length d
shortest_least c p d b h = primitive_least (format c) p d (format_least c) b h
