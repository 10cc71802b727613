-- Bytes among others, and rows of pieces.
use Rattle.std.proofs.Common.{◌≡◌, ℕ, zero, suc, ◌+◌, ◌-◌, ◌≤◌, List, [], ◌∷◌, ◌++◌, length, take, drop, refl, sym, ap, ap₂, ◌∙◌, subst, arith}
use Rattle.std.proofs.Common.{append_assoc, append-nil}
use Rattle.std.proofs.lemmas.List.{take-append-drop, length-append, length-take-le}
use Rattle.std.proofs.Math.Seq.{take-add, take-append_seam, drop-append_seam}
use Rattle.amqp_lengths.specs.Fronts.{IsFront, Behind}
use Rattle.amqp_lengths.specs.Lengths.{Row}
use Rattle.amqp_paths.specs.Steps.{Among}

pub among_length : (z y : List ℕ) (a b : ℕ) → Among z y a b → a + length y + b ≡ length z
among_length z y a b h =
    omega (arith, ap length h.is, length-append h.front (y ++ h.rest), length-append y h.rest, h.before_is, h.behind_is)

pub among_all : (z : List ℕ) → Among z z 0 0
among_all z = record { front = []; rest = []; is = sym (append-nil z); before_is = refl; behind_is = refl }

pub among_tail : (n : ℕ) (z : List ℕ) → n ≤ length z → Among z (drop n z) n 0
among_tail n z few = record {
  front = take n z;
  rest = [];
  is = sym (take-append-drop n z) ∙ ap (λ x. take n z ++ x) (sym (append-nil (drop n z)));
  before_is = length-take-le n z few;
  behind_is = refl;
}

pub among_inner : (z y x : List ℕ) (a b c d : ℕ) → Among z y a b → Among y x c d → Among z x (a + c) (d + b)
among_inner z y x a b c d h k =
    let f = h.front in
    let g = k.front in
    record {
      front = f ++ g;
      rest = k.rest ++ h.rest;
      is = h.is ∙ ap (λ l. f ++ (l ++ h.rest)) k.is ∙ ap (λ l. f ++ l) (append_assoc g (x ++ k.rest) h.rest)
          ∙ ap (λ l. f ++ (g ++ l)) (append_assoc x k.rest h.rest) ∙ sym (append_assoc f g (x ++ (k.rest ++ h.rest)));
      before_is = length-append f g ∙ ap₂ (λ m n. m + n) h.before_is k.before_is;
      behind_is = length-append k.rest h.rest ∙ ap₂ (λ m n. m + n) k.behind_is h.behind_is;
    }

pub among_after : (c : ℕ) (z y : List ℕ) (a b : ℕ) → Among z y a b → Among (c ∷ z) y (1 + a) b
among_after c z y a b h = record {
  front = c ∷ h.front;
  rest = h.rest;
  is = ap (λ l. c ∷ l) h.is;
  before_is = omega (arith, h.before_is);
  behind_is = h.behind_is;
}

-- the slice of them
pub among_slice : (z y : List ℕ) (a b e : ℕ) → Among z y a b → e + b ≡ length z → take (e - a) (drop a z) ≡ y
among_slice z y a b e h ends =
    let there : drop a z ≡ y ++ h.rest = ap₂ drop (sym h.before_is) h.is ∙ drop-append_seam h.front (y ++ h.rest) in
    let long : e - a ≡ length y = omega (arith, among_length z y a b h, ends) in
    ap₂ take long there ∙ take-append_seam y h.rest

-- a row and one piece more
row_more : (P : List ℕ → Type 0) (n : ℕ) (a b : List ℕ) → Row P n a → P b → Row P (suc n) (a ++ b)
row_more P zero a b h p = (b, [], ap (λ l. l ++ b) h ∙ sym (append-nil b), p, refl)
row_more P (suc n) a b (first, second, e, q, r) p =
    (first, second ++ b, ap (λ l. l ++ b) e ∙ append_assoc first second b, q, row_more P n second b r p)

pub row_next : (P : List ℕ → Type 0) (n len k : ℕ) (z : List ℕ) → Row P n (take len z) → IsFront P (drop len z) k
    → Row P (n + 1) (take (len + k) z)
row_next P n len k z r f =
    let one : suc n ≡ n + 1 = omega arith in
    subst (λ l. Row P (n + 1) l) (sym (take-add len k z))
    (subst (λ j. Row P j (take len z ++ take k (drop len z))) one (row_more P n (take len z) (take k (drop len z)) r f.spelled))

pub front_behind : (P : List ℕ → Type 0) (z : List ℕ) (n : ℕ) → IsFront P z n → Behind P z (drop n z)
front_behind P z n f = record { front = take n z; is = sym (take-append-drop n z); spelled = f.spelled }
