-- A size among the first ones.
use Rattle.std.proofs.Common.{◌≡◌, ◌<◌, ◌≤◌, ◌⊎◌, ℕ, List, [], ◌++◌, length, take, set, sym, ap, inl, inr, arith, length-append}
use Rattle.std.proofs.lemmas.List.{set-append_left, length-take}
use Rattle.std.proofs.Math.Seq.{take-set-lt}

is_within : {X : Type 0} (first more : List X) (len i : ℕ) → i < 8 → len ≤ 8 → length first ≡ 8 → (len ≡ 8) ⊎ (more ≡ [])
    → i < length (take len first ++ more) → i < len
is_within first more len i a b c (inl e) h = omega arith
is_within first more len i a b c (inr e) h =
    let none : length more ≡ 0 = ap length e in
    omega (arith, length-append (take len first) more, length-take len first)

pub set_first : {X : Type 0} (first more : List X) (len i : ℕ) (x : X) → i < 8 → len ≤ 8 → length first ≡ 8
    → (len ≡ 8) ⊎ (more ≡ []) → i < length (take len first ++ more)
    → take len (set first i x) ++ more ≡ set (take len first ++ more) i x
set_first first more len i x a b c e h =
    let w = is_within first more len i a b c e h in
    rw (take-set-lt len first i x w) (sym (set-append_left (take len first) more i x (omega (arith, length-take len first))))
