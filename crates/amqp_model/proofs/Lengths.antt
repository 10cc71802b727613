-- The lengths of spellings.
use Rattle.std.proofs.Common.{◌≡◌, ℕ, ◌+◌, ◌<◌, ◌≤◌, ◌⊎◌, inl, inr, List, [], ◌∷◌, ◌++◌, length, refl, sym, ap, ap₂, ◌∙◌, subst, arith}
use Rattle.std.proofs.Common.{Bool, true, false, ◌&&◌, ltb}
use Rattle.std.proofs.lemmas.Bool.{cond_both, ltb-true, ltb-false}
use Rattle.std.proofs.lemmas.List.{length-append}
use Rattle.std.specs.Int.{bytes_high_first}
use Rattle.amqp_model.specs.Term.{Container, Term, Descriptor}
use Rattle.amqp_model.specs.Spelling.{Constructor, IsSpelling}
use Rattle.amqp_model.specs.Text.{short_code, wide_code, size_and_count, is_short, compact_head}
use Rattle.amqp_model.proofs.Bytes.{length-bytes}

pub joined_length : (b first second : List ℕ) → b ≡ first ++ second → length b ≡ length first + length second
joined_length b first second e = ap length e ∙ length-append first second

pub sized_length : (w : ℕ) (s d : List ℕ) → d ≡ bytes_high_first w (length s) ++ s → length d ≡ w + length s
sized_length w s d e = joined_length d (bytes_high_first w (length s)) s e ∙ ap (λ n. n + length s) (length-bytes w (length s))

pub frame_length : (w size n : ℕ) (content d : List ℕ) → d ≡ bytes_high_first w size ++ (bytes_high_first w n ++ content)
    → length d ≡ w + (w + length content)
frame_length w size n content d e =
    joined_length d (bytes_high_first w size) (bytes_high_first w n ++ content) e
    ∙ ap₂ (λ a b. a + b) (length-bytes w size) (length-append (bytes_high_first w n) content
    ∙ ap (λ a. a + length content) (length-bytes w n))

pub constructor_length : (ds : List Descriptor) (c : ℕ) (b : List ℕ) → Constructor ds c b → 1 ≤ length b
constructor_length [] c b h = subst (λ l. 1 ≤ length l) (sym h.0) (omega arith)
constructor_length (d ∷ ds) c b h = subst (λ l. 1 ≤ length l) (sym h.2) (omega arith)

pub spelling_length : (b : List ℕ) (t : Term) → IsSpelling b t → 1 ≤ length b
unfolding IsSpelling
spelling_length b t (ds, c, few, (first, second, e, k, h)) = omega (arith, joined_length b first second e, constructor_length ds c first k)

both_true : (a b : Bool) → (a && b) ≡ true → (a ≡ true) × (b ≡ true)
both_true true b e = (refl, e)
both_true false b e = cc

one_false : (a b : Bool) → (a && b) ≡ false → (a ≡ false) ⊎ (b ≡ false)
one_false true b e = inr e
one_false false b e = inl refl

too_long : (n content : ℕ) → (ltb content 255 ≡ false) ⊎ (ltb n 256 ≡ false) → (255 ≤ content) ⊎ (256 ≤ n)
too_long n content (inl e) = inl (ltb-false content 255 e)
too_long n content (inr e) = inr (ltb-false n 256 e)

-- what holds of both heads holds of the canonical one
pub compact_cases : (k : Container) (n content : ℕ) (P : List ℕ → Type 0)
    → (content < 255 → n < 256 → P (short_code k ∷ size_and_count 1 n content))
    → ((255 ≤ content) ⊎ (256 ≤ n) → P (wide_code k ∷ size_and_count 4 n content)) → P (compact_head k n content)
compact_cases k n content P short_ long_ =
    cond_both (is_short n content) (short_code k ∷ size_and_count 1 n content) (wide_code k ∷ size_and_count 4 n content) P
    (λ e. let both = both_true (ltb content 255) (ltb n 256) e in short_ (ltb-true content 255 both.0) (ltb-true n 256 both.1))
    (λ e. long_ (too_long n content (one_false (ltb content 255) (ltb n 256) e)))
