-- Tests of texts.
use Rattle.std.proofs.Common.{◌≡◌, ℕ, ◌≤◌, suc, zero, List, [], ◌∷◌, ◌++◌, length, take, drop, refl, sym, ap, ap₂, ◌∙◌, arith, Bool, true}
use Rattle.std.proofs.Common.{false, ◌&&◌, IsAscii}
use Rattle.std.specs.Prelude.{nat_eq}
use Rattle.std.specs.Str.{IsNotAscii}
use Rattle.std.specs.Cmp.Lexicographic.{pointwise, bytes_decides}
use Rattle.std.proofs.lemmas.Bool.{lt-ltb, le-ltb, ltb-true}
use Rattle.std.proofs.lemmas.List.{take-append-drop, length-append, take-take, drop-take}
use Rattle.std.proofs.Math.Seq.{take-append-add, take-append_seam, drop-append_seam}
use Rattle.std.specs.Char.{is_ascii}
use Rattle.amqp_encoder.specs.Measuring.{all_ascii}

both_hold : (a b : Bool) → a ≡ true → b ≡ true → (a && b) ≡ true
both_hold a b h k = rw (h, k) refl

second_fails : (a b : Bool) → b ≡ false → (a && b) ≡ false
second_fails true b h = h
second_fails false b h = refl

first_fails : (a b : Bool) → a ≡ false → (a && b) ≡ false
first_fails a b h = rw h refl

pub ascii_tested : (s : List ℕ) → IsAscii s → all_ascii s ≡ true
ascii_tested [] h = refl
ascii_tested (c ∷ cs) h = both_hold (is_ascii c) (all_ascii cs) (lt-ltb c 128 (h 0)) (ascii_tested cs (λ i. h (suc i)))

non_ascii_at : (s : List ℕ) → IsNotAscii s → all_ascii s ≡ false
non_ascii_at [] (i, h) = absurd (omega arith)
non_ascii_at (c ∷ cs) (zero, h) = first_fails (is_ascii c) (all_ascii cs) (le-ltb c 128 h)
non_ascii_at (c ∷ cs) (suc i, h) = second_fails (is_ascii c) (all_ascii cs) (non_ascii_at cs (i, h))

pub non_ascii_tested : (s : List ℕ) → IsNotAscii s → all_ascii s ≡ false
non_ascii_tested s h = non_ascii_at s h

not_true : (b : Bool) → (b ≡ true → ⊥) → b ≡ false
not_true true h = absurd (h refl)
not_true false h = refl

same : (xs ys : List ℕ) → pointwise nat_eq xs ys ≡ true → xs ≡ ys
same xs ys e = (bytes_decides xs ys).0 e

-- a front of two parts
joined : (h t r : List ℕ) → take (length h) r ≡ h → take (length t) (drop (length h) r) ≡ t → take (length (h ++ t)) r ≡ h ++ t
joined h t r a b =
    let e : r ≡ h ++ drop (length h) r = sym (take-append-drop (length h) r) ∙ ap (λ l. l ++ drop (length h) r) a in
    ap₂ take (length-append h t) e ∙ take-append-add h (drop (length h) r) (length t) ∙ ap (λ l. h ++ l) b

first_part : (h t r : List ℕ) → take (length (h ++ t)) r ≡ h ++ t → take (length h) r ≡ h
first_part h t r e =
    let n : length h ≤ length (h ++ t) = omega (arith, length-append h t) in
    sym (take-take (length h) (length (h ++ t)) r n) ∙ ap (take (length h)) e ∙ take-append_seam h t

second_part : (h t r : List ℕ) → take (length (h ++ t)) r ≡ h ++ t → take (length t) (drop (length h) r) ≡ t
second_part h t r e =
    sym (drop-take (length h) (length t) r) ∙ ap (λ n. drop (length h) (take n r)) (sym (length-append h t))
    ∙ ap (drop (length h)) e ∙ drop-append_seam h t

pub goes_on_true : (h t r : List ℕ) → pointwise nat_eq (take (length h) r) h ≡ true
    → pointwise nat_eq (take (length t) (drop (length h) r)) t ≡ true
    → pointwise nat_eq (take (length (h ++ t)) r) (h ++ t) ≡ true
goes_on_true h t r a b =
    (bytes_decides (take (length (h ++ t)) r) (h ++ t)).1
    (joined h t r (same (take (length h) r) h a) (same (take (length t) (drop (length h) r)) t b))

pub goes_on_first : (h t r : List ℕ) → pointwise nat_eq (take (length h) r) h ≡ false
    → pointwise nat_eq (take (length (h ++ t)) r) (h ++ t) ≡ false
goes_on_first h t r a =
    not_true (pointwise nat_eq (take (length (h ++ t)) r) (h ++ t)) (λ e.
    let yes : pointwise nat_eq (take (length h) r) h ≡ true =
    (bytes_decides (take (length h) r) h).1 (first_part h t r (same (take (length (h ++ t)) r) (h ++ t) e)) in
    let no : true ≡ false = sym yes ∙ a in cc)

pub goes_on_second : (h t r : List ℕ) → pointwise nat_eq (take (length t) (drop (length h) r)) t ≡ false
    → pointwise nat_eq (take (length (h ++ t)) r) (h ++ t) ≡ false
goes_on_second h t r a =
    not_true (pointwise nat_eq (take (length (h ++ t)) r) (h ++ t)) (λ e.
    let yes : pointwise nat_eq (take (length t) (drop (length h) r)) t ≡ true =
    (bytes_decides (take (length t) (drop (length h) r)) t).1 (second_part h t r (same (take (length (h ++ t)) r) (h ++ t) e)) in
    let no : true ≡ false = sym yes ∙ a in cc)

both_of : (a b : Bool) → (a && b) ≡ true → (a ≡ true) × (b ≡ true)
both_of true b h = (refl, h)
both_of false b h = cc

pub ascii_from : (s : List ℕ) → all_ascii s ≡ true → IsAscii s
ascii_from [] h i = omega arith
ascii_from (c ∷ cs) h zero = ltb-true c 128 (both_of (is_ascii c) (all_ascii cs) h).0
ascii_from (c ∷ cs) h (suc i) = ascii_from cs (both_of (is_ascii c) (all_ascii cs) h).1 i
