-- The bytes that a limit leaves.
use Rattle.std.proofs.Common.{◌≡◌, ◌≤◌, ◌<◌, ℕ, ◌-◌, ◌^◌, Bool, true, false, cond, eqb, nat_lt, Option, Some, None, unwrap_or, IsTrue, ◌↔◌, refl, sym, ap, ◌∙◌, subst}
use Rattle.std.proofs.Common.{arith}
use Rattle.std.proofs.lemmas.Bool.{eqb-true, eq-eqb, ne_eqb}
use Rattle.amqp_wire.specs.Limits.{unlimited, limit_of}
use Rattle.amqp_decoder.specs.State.{Has, lower, left_in, is_sized, is_free, emptied}

limited : (n : ℕ) → (n ≡ unlimited → ⊥) → limit_of n ≡ Some n
limited n some = ap (λ b. cond b None (Some n)) (ne_eqb n unlimited some)

-- a limit is below the number that sets none
pub limited_most : (n : ℕ) → n < 2 ^ 64 → (n ≡ unlimited → ⊥) → (most : ℕ) × (most < unlimited) × (limit_of n ≡ Some most)
limited_most n fits some = (n, omega (arith, fits, some), limited n some)

pub unlimited_is : (n : ℕ) → n ≡ unlimited → limit_of n ≡ None
unlimited_is n e = ap limit_of e

-- whether it leaves so many
fits_by : (t : Bool) (b n : ℕ) → n ≤ b → Has (cond t None (Some b)) n
fits_by true b n h = tt
fits_by false b n h = h

pub fits_limit : (b n : ℕ) → n ≤ b → Has (limit_of b) n
fits_limit b n h = fits_by (eqb b unlimited) b n h

passes_by : (t : Bool) (b n : ℕ) → b < n → n < unlimited → eqb b unlimited ≡ t → Has (cond t None (Some b)) n → ⊥
passes_by true b n less few e h = let x = eqb-true b unlimited e in omega (arith, x, less, few)
passes_by false b n less few e h = omega (arith, h, less)

pub passes_limit : (b n : ℕ) → b < n → n < unlimited → Has (limit_of b) n → ⊥
passes_limit b n less few h = passes_by (eqb b unlimited) b n less few refl h

-- it leaves none
spent_by : (t : Bool) (b : ℕ) → cond t None (Some b) ≡ Some 0 → b ≡ 0
spent_by true b e = absurd (cc)
spent_by false b e = ap (λ o. unwrap_or o 0) e

pub spent : (b : ℕ) → limit_of b ≡ Some 0 → b ≡ 0
spent b e = spent_by (eqb b unlimited) b e

pub none_spent : (b : ℕ) → b ≡ 0 → limit_of b ≡ Some 0
none_spent b e = ap limit_of e

-- where no size bounds a frame
pub unbounded : (o limit : Option ℕ) → cond (is_sized o) (left_in o limit) None ≡ None → o ≡ None
unbounded None limit e = refl
unbounded (Some l) limit e = e

-- some of its bytes are taken
pub limit_lowered : (b n r : ℕ) → (b ≡ unlimited → ⊥) → b ≤ unlimited → n ≤ b → r ≡ b - n
    → (limit_of r ≡ lower (limit_of b) n) × (emptied (limit_of r) ≡ emptied (limit_of b))
limit_lowered b n r some most few is =
    let own : limit_of b ≡ Some b = limited b some in
    let less : limit_of r ≡ Some r = limited r (λ e. some (omega (arith, e, is, most, few))) in (
      less ∙ ap Some is ∙ ap (λ o. lower o n) (sym own),
      ap emptied less ∙ ap emptied (sym own),
    )

pub few_bytes : (b n : ℕ) → (b ≡ unlimited → ⊥) → Has (limit_of b) n → n ≤ b
few_bytes b n some h = subst (λ o. Has o n) (limited b some) h

-- no byte is left
pub is_spent_some : (o : Option ℕ) (l : ℕ) (limit : Option ℕ) → o ≡ Some l → IsTrue (eqb l 0) ↔ (left_in o limit ≡ Some 0)
is_spent_some o l limit is = (
  λ t. ap (λ z. left_in z limit) is ∙ ap Some (eqb-true l 0 t),
  λ e. eq-eqb l 0 (ap (λ z. unwrap_or z 0) (sym (ap (λ z. left_in z limit) is) ∙ e)),
)

pub is_spent_none : (o : Option ℕ) (b : ℕ) → o ≡ None → IsTrue (eqb b 0) ↔ (left_in o (limit_of b) ≡ Some 0)
is_spent_none o b is = (
  λ t. ap (λ z. left_in z (limit_of b)) is ∙ none_spent b (eqb-true b 0 t),
  λ e. eq-eqb b 0 (spent b (sym (ap (λ z. left_in z (limit_of b)) is) ∙ e)),
)

-- so many are not left, or are
pub passes_none : (o : Option ℕ) (b n m : ℕ) → o ≡ None → m ≡ n → b < m → n < unlimited
    → (cond (is_sized o) (left_in o (limit_of b)) None ≡ None) × (Has (left_in o (limit_of b)) n → ⊥)
passes_none o b n m is same less few = (
  ap (λ z. cond (is_sized z) (left_in z (limit_of b)) None) is,
  λ h. passes_limit b n (omega (arith, same, less)) few (subst (λ z. Has (left_in z (limit_of b)) n) is h),
)

pub within_none : (o : Option ℕ) (b n m : ℕ) → o ≡ None → m ≡ n → m ≤ b → Has (left_in o (limit_of b)) n
within_none o b n m is same few =
    subst (λ z. Has (left_in z (limit_of b)) n) (sym is) (fits_limit b n (omega (arith, same, few)))

pub not_sized : (o : Option ℕ) (l : ℕ) (limit : Option ℕ) → o ≡ Some l → cond (is_sized o) (left_in o limit) None ≡ None → ⊥
not_sized o l limit is e = let x = unbounded o limit e in let y : Some l ≡ None = sym is ∙ x in cc

-- the caller has set a limit
none_else : (b : Bool) → cond b false false ≡ false
none_else true = refl
none_else false = refl

pub bytes_bounded : (nesting b items : ℕ) → (b ≡ unlimited → ⊥) → is_free nesting b items ≡ false
bytes_bounded nesting b items some =
    ap (λ x. cond (nat_lt nesting 128) false (cond x (eqb items unlimited) false)) (ne_eqb b unlimited some) ∙ none_else (nat_lt nesting 128)

pub items_bounded : (nesting b items : ℕ) → (items ≡ unlimited → ⊥) → is_free nesting b items ≡ false
items_bounded nesting b items some =
    ap (λ x. cond (nat_lt nesting 128) false (cond (eqb b unlimited) x false)) (ne_eqb items unlimited some)
    ∙ ap (λ x. cond (nat_lt nesting 128) false x) (none_else (eqb b unlimited)) ∙ none_else (nat_lt nesting 128)

pub nesting_bounded : (nesting b items : ℕ) → nat_lt nesting 128 ≡ true → is_free nesting b items ≡ false
nesting_bounded nesting b items less = ap (λ x. cond x false (cond (eqb b unlimited) (eqb items unlimited) false)) less
