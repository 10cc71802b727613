-- A list whose items are no longer than those of another list, and null where those are, has no longer a text.
use Rattle.std.proofs.Common.{◌≡◌, ℕ, zero, suc, ◌+◌, ◌≤◌, Bool, true, false, cond, List, [], ◌∷◌, length, refl, ◌∙◌, arith, length-append, sym, ◌<◌, ltb}
use Rattle.std.specs.Prelude.{◌&&◌}
use Rattle.std.proofs.lemmas.Bool.{ltb-true, lt-ltb}
use Rattle.amqp_model.specs.Term.{null, list, Term, leaf, count}
use Rattle.amqp_model.specs.Items.{terms_of, is_null, before_nulls, without_last_nulls}
use Rattle.amqp_model.specs.Text.{Alone, is_short, compact_head, head, container_text, text, texts}

-- ---- an item

pub record IsBelow (t u : Term) : Type 0 where
  pub null_too : is_null u ≡ true → is_null t ≡ true
  pub shorter : length (text t Alone) ≤ length (text u Alone)

pub same_below : (t : Term) → IsBelow t t
same_below t = record { null_too = λ e. e; shorter = omega arith }

pub null_below : (u : Term) → 1 ≤ length (text u Alone) → IsBelow (leaf null) u
unfolding text
null_below u some = record { null_too = λ e. refl; shorter = some }

-- ---- items in a row

abbrev pub AreBelow : List Term → List Term → Type 0
AreBelow [] [] = Unit {0}
AreBelow [] (u ∷ us) = ⊥
AreBelow (t ∷ ts) [] = ⊥
AreBelow (t ∷ ts) (u ∷ us) = IsBelow t u × AreBelow ts us

abbrev pub number : List Term → ℕ
number ts = count (terms_of ts)

abbrev pub bytes : List Term → ℕ
bytes ts = length (texts (terms_of ts) Alone)

no_bytes : bytes [] ≡ 0
unfolding text
no_bytes = refl

-- fewer items, of fewer bytes
pub record AreFewer (ts us : List Term) : Type 0 where
  pub items : number ts ≤ number us
  pub content : bytes ts ≤ bytes us

bytes_more : (t : Term) (ts : List Term) → bytes (t ∷ ts) ≡ length (text t Alone) + bytes ts
unfolding text
bytes_more t ts = length-append (text t Alone) (texts (terms_of ts) Alone)

one_fewer : (t u : Term) (ts us : List Term) → IsBelow t u → AreFewer ts us → AreFewer (t ∷ ts) (u ∷ us)
one_fewer t u ts us below fewer = record {
  items = (let n = fewer.items in omega arith);
  content = omega (arith, bytes_more t ts, bytes_more u us, below.shorter, fewer.content);
}

none_first : (us : List Term) → AreFewer [] us
none_first us = record { items = omega arith; content = omega (arith, no_bytes) }

-- the last items, which are left out if they are null
last_fewer : (t u : Term) (a b : Bool) → is_null t ≡ a → is_null u ≡ b → IsBelow t u
    → AreFewer (cond a [] (t ∷ [])) (cond b [] (u ∷ []))
last_fewer t u true true e f below = none_first []
last_fewer t u true false e f below = none_first (u ∷ [])
last_fewer t u false true e f below = let no : false ≡ true = sym e ∙ below.null_too f in absurd (cc)
last_fewer t u false false e f below = one_fewer t u [] [] below (none_first [])

none_fewer : (t u : Term) (a : Bool) (ts : List Term) → IsBelow t u → AreFewer (cond a [] (t ∷ [])) (u ∷ ts)
none_fewer t u true ts below = none_first (u ∷ ts)
none_fewer t u false ts below = one_fewer t u [] ts below (none_first ts)

before_fewer : (t u : Term) (ts us : List Term) → IsBelow t u → AreFewer ts us → AreFewer (before_nulls t ts) (before_nulls u us)
before_fewer t u [] [] below fewer = last_fewer t u (is_null t) (is_null u) refl refl below
before_fewer t u [] (y ∷ us) below fewer = none_fewer t u (is_null t) (y ∷ us) below
before_fewer t u (x ∷ ts) [] below fewer = let n = fewer.items in absurd (omega arith)
before_fewer t u (x ∷ ts) (y ∷ us) below fewer = one_fewer t u (x ∷ ts) (y ∷ us) below fewer

pub all_fewer : (ts us : List Term) → AreBelow ts us → AreFewer (without_last_nulls ts) (without_last_nulls us)
all_fewer [] [] below = none_first []
all_fewer [] (u ∷ us) below = absurd below
all_fewer (t ∷ ts) [] below = absurd below
all_fewer (t ∷ ts) (u ∷ us) below =
    before_fewer t u (without_last_nulls ts) (without_last_nulls us) below.0 (all_fewer ts us below.1)

-- ---- the list

short_head : (n content : ℕ) → is_short n content ≡ true → length (compact_head list n content) ≡ 3
short_head n content e = rw e refl

long_head : (n content : ℕ) → is_short n content ≡ false → length (compact_head list n content) ≡ 9
long_head n content e = rw e refl

both_true : (a b : Bool) → (a && b) ≡ true → (a ≡ true) × (b ≡ true)
both_true true b e = (refl, e)
both_true false b e = absurd (cc)

short_too : (n m a b : ℕ) → n ≤ m → a ≤ b → is_short m b ≡ true → is_short n a ≡ true
short_too n m a b fewer less e =
    let both = both_true (ltb b 255) (ltb m 256) e in
    let content : a < 255 = (let l = ltb-true b 255 both.0 in omega arith) in
    let items : n < 256 = (let l = ltb-true m 256 both.1 in omega arith) in
    rw (lt-ltb a 255 content, lt-ltb n 256 items) refl

head_length : (n m a b : ℕ) → n ≤ m → a ≤ b → (s r : Bool) → is_short n a ≡ s → is_short m b ≡ r
    → length (compact_head list n a) ≤ length (compact_head list m b)
head_length n m a b fewer less true true e f = omega (arith, short_head n a e, short_head m b f)
head_length n m a b fewer less true false e f = omega (arith, short_head n a e, long_head m b f)
head_length n m a b fewer less false true e f = let no : false ≡ true = sym e ∙ short_too n m a b fewer less f in absurd (cc)
head_length n m a b fewer less false false e f = omega (arith, long_head n a e, long_head m b f)

least_head : (m b : ℕ) (r : Bool) → is_short m b ≡ r → 3 ≤ length (compact_head list m b)
least_head m b true e = omega (arith, short_head m b e)
least_head m b false e = omega (arith, long_head m b e)

pub list_length : (n m : ℕ) (a b : List ℕ) → n ≤ m → length a ≤ length b
    → length (container_text Alone list n a) ≤ length (container_text Alone list m b)
list_length zero zero a b fewer less = omega (arith, length-append (head Alone list 0 (length a)) a, length-append (head Alone list 0 (length b)) b)
list_length zero (suc m) a b fewer less =
    omega (
      arith,
      length-append (head Alone list 0 (length a)) a,
      length-append (compact_head list (suc m) (length b)) b,
      least_head (suc m) (length b) (is_short (suc m) (length b)) refl,
    )
list_length (suc n) zero a b fewer less = absurd (omega arith)
list_length (suc n) (suc m) a b fewer less =
    omega (
      arith,
      length-append (compact_head list (suc n) (length a)) a,
      length-append (compact_head list (suc m) (length b)) b,
      head_length (suc n) (suc m) (length a) (length b) fewer less _ _ refl refl,
    )
