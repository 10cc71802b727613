-- What is known of the bytes of sources.
use Rattle.std.proofs.Common.{◌≡◌, ◌≤◌, ℕ, ◌+◌, ◌<◌, List, [], ◌++◌, length, take, Option, Some, None, refl, sym, ap, ◌∙◌, subst, arith}
use Rattle.std.proofs.Common.{append_assoc, ◌⊎◌, inl, inr}
use Rattle.std.proofs.lemmas.List.{length-take-le, take-append-le}
use Rattle.std.proofs.lemmas.Slice.{take-put_mid_below}
use Rattle.std.proofs.Math.Seq.{take-append-add}
use Rattle.std.specs.Io.KnownBytes.{Consumes, IsAtEnd}
use Rattle.amqp_wire.specs.Sources.{known, IsTold}
use borrow.Rule.Slice.PartMut.{put_mid, post_of}

-- what a source that tells gave was in front
pub consumed_known : (a b : Option (List ℕ)) (s : List ℕ) → IsTold a → Consumes a b s → known a ≡ s ++ known b
consumed_known None b s (x, e) h = absurd (cc)
consumed_known (Some xs) None s t h = absurd h
consumed_known (Some xs) (Some ys) s t h = h

-- and it tells what it has then
pub consumed_told : (a b : Option (List ℕ)) (s : List ℕ) → IsTold a → Consumes a b s → IsTold b
consumed_told None b s (x, e) h = absurd (cc)
consumed_told (Some xs) None s t h = absurd h
consumed_told (Some xs) (Some ys) s t h = (ys, refl)

pub ended_known : (a : Option (List ℕ)) → IsTold a → IsAtEnd a → known a ≡ []
ended_known None (x, e) h = absurd (cc)
ended_known (Some xs) t h = h

-- the first bytes of a buffer into whose middle some were written
pub taken_more : (a n k : ℕ) (xs ys : List ℕ) → a ≤ length xs → n ≤ length ys → take (a + n) (put_mid a k xs ys) ≡ take a xs ++ take n ys
taken_more a n k xs ys h w =
    let e : length (take a xs) ≡ a = length-take-le a xs h in
    subst (λ m. take (m + n) (take a xs ++ (ys ++ post_of a k xs)) ≡ take a xs ++ take n ys) e
    (take-append-add (take a xs) (ys ++ post_of a k xs) n ∙ ap (λ l. take a xs ++ l) (take-append-le n ys (post_of a k xs) w))

-- one more pull
pub pulled : (K L M xs ys : List ℕ) (a n k : ℕ) → a ≤ length xs → n ≤ length ys → K ≡ take a xs ++ L → L ≡ take n ys ++ M
    → K ≡ take (a + n) (put_mid a k xs ys) ++ M
pulled K L M xs ys a n k h w d e = d ∙ ap (λ l. take a xs ++ l) e ∙ sym (append_assoc (take a xs) (take n ys) M)
    ∙ ap (λ l. l ++ M) (sym (taken_more a n k xs ys h w))

-- a pull that gave nothing
pub pulled_none : (K L M xs ys : List ℕ) (a n k : ℕ) → a ≤ length xs → n ≡ 0 → K ≡ take a xs ++ L → L ≡ take n ys ++ M
    → K ≡ take a (put_mid a k xs ys) ++ M
pulled_none K L M xs ys a n k h z d e =
    let same : L ≡ M = subst (λ m. L ≡ take m ys ++ M) z e in
    d ∙ ap (λ l. take a xs ++ l) same ∙ ap (λ l. l ++ M) (sym (take-put_mid_below a k xs ys a (omega arith) h))

-- at the end of the source
pub ended : (a b : Option (List ℕ)) (s : List ℕ) (n room : ℕ) → IsTold a → Consumes a b (take n s)
    → (n ≡ 0 → (room ≡ 0) ⊎ IsAtEnd a) → n ≡ 0 → 0 < room → known b ≡ []
ended a b s n room t h f z some = elim (f z) [
  | inl x ↦ absurd (omega (arith, x))
  | inr x ↦ sym (subst (λ m. known a ≡ take m s ++ known b) z (consumed_known a b (take n s) t h)) ∙ ended_known a t x
]
