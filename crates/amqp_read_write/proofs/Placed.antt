-- A text that is put into memory of the caller.
use Rattle.std.proofs.Common.{◌≡◌, inl, inr, ℕ, ◌≤◌, ◌<◌, List, ◌++◌, length, drop, subst, sym}
use Rattle.std.proofs.lemmas.Bool.{cases_lt}
use Rattle.amqp_read_write.specs.Room.{IsPlaced}

pub placed : (text old new : List ℕ) (len : ℕ) → len ≡ length text → (len ≤ length old → new ≡ text ++ drop len old)
    → (length old < len → new ≡ old) → IsPlaced text old new len
placed text old new len is fits short = (
  is,
  elim (cases_lt (length old) (length text)) [
    | inl lt ↦ inr (lt, short (subst (λ n. length old < n) (sym is) lt))
    | inr le ↦ inl (le, subst (λ n. new ≡ text ++ drop n old) is (fits (subst (λ n. n ≤ length old) (sym is) le)))
  ],
)
