-- Names that are compared piece by piece.
use Rattle.std.proofs.Common.{◌≡◌, ◌≤◌, ◌<◌, ℕ, ◌+◌, Bool, true, false, not, ◌&&◌, ◌↔◌, IsTrue, MatchBool, IsAscii, position, get_or}
use Rattle.std.proofs.Common.{Option, Some, None, List, [], ◌∷◌, ◌++◌, length, take, drop, All, refl, sym, ap, ap₂, ◌∙◌, subst, arith}
use Rattle.std.proofs.Common.{length-append}
use Rattle.std.proofs.lemmas.List.{take-take, take_at, take_all, drop_at, get_or-append-add}
use Rattle.std.proofs.lemmas.List.Quantifiers.{position-Some}
use Rattle.std.proofs.lemmas.Str.{IsAscii-append, IsAscii-take}
use Rattle.amqp_model.specs.Term.{name}
use Rattle.std.proofs.Math.Seq.{take-add}
use Rattle.std.proofs.lemmas.Slice.Eq.{bytes_eq-Decides}
use Rattle.std.specs.Str.{bytes_eq, IsNotAscii}
use Rattle.amqp_lookahead.specs.Members.{Member, is_of, place_of, BeginsNot}

-- a front in two pieces
pub front_joined : (l a b : List ℕ) → take (length a) l ≡ a → take (length b) (drop (length a) l) ≡ b → take (length (a ++ b)) l ≡ a ++ b
front_joined l a b e f = ap (λ n. take n l) (length-append a b) ∙ take-add (length a) (length b) l ∙ ap₂ (λ x y. x ++ y) e f

pub front_first : (l a b : List ℕ) → take (length (a ++ b)) l ≡ a ++ b → take (length a) l ≡ a
front_first l a b e =
    let few : length a ≤ length (a ++ b) = omega (arith, length-append a b) in
    sym (take-take (length a) (length (a ++ b)) l few) ∙ ap (take (length a)) e ∙ take_at a b (length a) refl

pub front_second : (l a b : List ℕ) → take (length (a ++ b)) l ≡ a ++ b → take (length b) (drop (length a) l) ≡ b
front_second l a b e =
    let whole : take (length a) l ++ take (length b) (drop (length a) l) ≡ a ++ b =
    sym (take-add (length a) (length b) l) ∙ ap (λ n. take n l) (sym (length-append a b)) ∙ e in
    let same : a ++ take (length b) (drop (length a) l) ≡ a ++ b =
    ap (λ x. x ++ take (length b) (drop (length a) l)) (sym (front_first l a b e)) ∙ whole in
    sym (drop_at a (take (length b) (drop (length a) l)) (length a) refl) ∙ ap (drop (length a)) same ∙ drop_at a b (length a) refl

not_false : (b : Bool) → false ≡ not b → b ≡ true
not_false true e = refl
not_false false e = cc

-- what `!=` says of two slices
pub agree : (a b : List ℕ) → false ≡ not (bytes_eq a b) → a ≡ b
agree a b e = (bytes_eq-Decides a b).0 (not_false (bytes_eq a b) e)

pub differ : (a b : List ℕ) → true ≡ not (bytes_eq a b) → a ≡ b → ⊥
differ a b e same = let h = (bytes_eq-Decides a b).1 same in let f : true ≡ not true = e ∙ ap not h in cc

ascii_first : (xs ys : List ℕ) → IsAscii (xs ++ ys) → IsAscii xs
ascii_first xs ys h = subst IsAscii (take_at xs ys (length xs) refl) (IsAscii-take (xs ++ ys) (length xs) h)

ascii_second : (xs ys : List ℕ) → IsAscii (xs ++ ys) → IsAscii ys
ascii_second xs ys h = λ i. subst (λ b. b < 128) (get_or-append-add xs ys i 0) (h (length xs + i))

-- one more piece is ASCII
pub ascii_both : (xs ys : List ℕ) (a b : Bool) → (IsTrue a ↔ IsAscii xs) → MatchBool b (IsAscii ys) (IsNotAscii ys)
    → IsTrue (a && b) ↔ IsAscii (xs ++ ys)
ascii_both xs ys true true h k = (λ e. IsAscii-append xs ys (h.0 refl) k, λ x. refl)
ascii_both xs ys false true h k = (λ e. absurd (cc), λ x. h.1 (ascii_first xs ys x))
ascii_both xs ys true false h k = (λ e. absurd (cc), λ x. absurd (let y = ascii_second xs ys x k.0 in omega (arith, k.1)))
ascii_both xs ys false false h k = (λ e. absurd (cc), λ x. h.1 (ascii_first xs ys x))

place_none : (p : Member → Bool) (xs : List Member) (o : Option ℕ) → position p xs ≡ o → All (λ m. p m ≡ true → ⊥) xs → o ≡ None
place_none p xs None e h = refl
place_none p [] (Some i) e h = sym e
place_none p (x ∷ xs) (Some i) e h = let s = position-Some p (x ∷ xs) i x e in absurd (h i x s.0 s.1)

-- no member has a name that none of them begins as
pub no_place : (members : List Member) (n : ℕ) (s : List ℕ) → length s ≡ n → All (λ m. BeginsNot m n s) members
    → place_of members (name s) ≡ None
no_place members n s long h = place_none (is_of (name s)) members (place_of members (name s)) refl (λ k d few e.
    let m = get_or members k d in
    let same : m.1.now ≡ s = (bytes_eq-Decides m.1.now s).0 e in
    h k d few (ap length same ∙ long) (ap (take (length s)) same ∙ take_all (length s) s (omega arith)))
