-- Memory that a text has filled.
use Rattle.std.proofs.Common.{◌≡◌, ℕ, List, ◌++◌, length, take, drop, refl, sym, ◌∙◌, ap, arith}
use Rattle.std.specs.Prelude.{Result, Ok, Err, IfErr}
use Rattle.std.proofs.lemmas.List.{take_all, length-take}
use Rattle.std.proofs.lemmas.Slice.{drop-append-drop}

pub on_err : {X E : Type 0} (r : Result X E) (P : E → Type 0) → ((e : E) → r ≡ Err e → P e) → IfErr r P
on_err (Ok x) P h = tt
on_err (Err e) P h = h e refl

-- a text that is as long as the memory is all of it
pub whole : (n : ℕ) (memory text : List ℕ) → take n memory ≡ text → length memory ≡ length text → memory ≡ text
whole n memory text h i = sym (take_all n memory (omega (arith, length-take n memory, ap length h))) ∙ h

-- what is behind a front of this length stays
pub behind_front : (n len : ℕ) (front old : List ℕ) → len ≡ n → length front ≡ len → drop n (front ++ drop len old) ≡ drop n old
behind_front n len front old i j = drop-append-drop len old front n (omega (arith, i)) j
