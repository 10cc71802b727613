-- What stands under a code is of the kind that it announces.
use Rattle.std.proofs.Common.{◌≡◌, ℕ, zero, suc, ◌⊎◌, inl, inr, Bool, true, false, cond, eqb, List, [], ◌∷◌, Option, Some, None, option_map}
use Rattle.std.proofs.Common.{refl, sym, ap, subst}
use Rattle.std.proofs.lemmas.Bool.{eqb-true, eq-eqb}
use Rattle.amqp_model.specs.Term.{Primitive}
use Rattle.amqp_model.specs.Constructors.{Format, unknown, format, constructors, look_up, boolean_byte}
use Rattle.amqp_model.specs.Spelling.{PrimitiveData}
use Rattle.amqp_lookahead.specs.Kinds.{kind_of, kind_under, kind_at, is_kind, codes_in, codes_of}

-- two facts as one
both : {A B : Type 0} → A → B → A × B
both a b = (a, b)

abbrev IsOneKind : Format → Type 0
IsOneKind F = (p : Primitive) (b : List ℕ) → PrimitiveData F p b → kind_under F ≡ Some (kind_of p)

abbrev EachRow : (Format → Type 0) → List (ℕ × Format) → Type 0
EachRow P [] = Unit {0}
EachRow P (row ∷ rows) = P row.1 × EachRow P rows

cond_format : (P : Format → Type 0) (t : Bool) (F G : Format) → P F → P G → P (cond t F G)
cond_format P true F G h k = h
cond_format P false F G h k = k

-- what holds of each row holds of what a code announces
at_code : (P : Format → Type 0) → P unknown → (rows : List (ℕ × Format)) → EachRow P rows → (c : ℕ) → P (look_up c rows)
at_code P u [] h c = u
at_code P u (row ∷ rows) h c = cond_format P (eqb c row.0) row.1 (look_up c rows) h.0 (at_code P u rows h.1 c)

boolean_kind : (b : List ℕ) (p : Primitive) → boolean_byte b ≡ Some p → Some 1 ≡ Some (kind_of p)
boolean_kind (zero ∷ []) p h = ap (option_map kind_of) h
boolean_kind (suc zero ∷ []) p h = ap (option_map kind_of) h
boolean_kind [] p h = cc
boolean_kind (suc (suc n) ∷ []) p h = cc
boolean_kind (zero ∷ y ∷ r) p h = cc
boolean_kind (suc zero ∷ y ∷ r) p h = cc
boolean_kind (suc (suc n) ∷ y ∷ r) p h = cc

one_kinds : EachRow IsOneKind constructors
one_kinds =
    (both (λ p b h. ap (option_map kind_of) h.1) (both (λ p b h. ap (option_map kind_of) h.1) (both (λ p b h. ap (option_map kind_of) h.1)
    (both (λ p b h. ap (option_map kind_of) h.1) (both (λ p b h. ap (option_map kind_of) h.1) (both (λ p b h. absurd h)
    (both (λ p b h. ap (option_map kind_of) h.1) (both (λ p b h. ap (option_map kind_of) h.1) (both (λ p b h. ap (option_map kind_of) h.1)
    (both (λ p b h. ap (option_map kind_of) h.1) (both (λ p b h. ap (option_map kind_of) h.1) (both (λ p b h. ap (option_map kind_of) h.1)
    (both (λ p b h. boolean_kind b p h.1) (both (λ p b h. ap (option_map kind_of) h.1) (both (λ p b h. ap (option_map kind_of) h.1)
    (both (λ p b h. ap (option_map kind_of) h.1) (both (λ p b h. ap (option_map kind_of) h.1) (both (λ p b h. ap (option_map kind_of) h.1)
    (both (λ p b h. ap (option_map kind_of) h.1) (both (λ p b h. ap (option_map kind_of) h.1) (both (λ p b h. ap (option_map kind_of) h.1)
    (both (λ p b h. ap (option_map kind_of) h.1) (both (λ p b h. ap (option_map kind_of) h.1) (both (λ p b h. ap (option_map kind_of) h.1)
    (both (λ p b h. ap (option_map kind_of) h.1) (both (λ p b h. ap (option_map kind_of) h.3) (both (λ p b h. ap (option_map kind_of) h.3)
    (both (λ p b h. ap (option_map kind_of) h.3) (both (λ p b h. ap (option_map kind_of) h.3) (both (λ p b h. ap (option_map kind_of) h.3)
    (both (λ p b h. ap (option_map kind_of) h.3) (both (λ p b h. absurd h) (both (λ p b h. absurd h) (both (λ p b h. absurd h)
    (both (λ p b h. absurd h) (both (λ p b h. absurd h) (both (λ p b h. absurd h) tt)))))))))))))))))))))))))))))))))))))

pub kind_data : (c : ℕ) (p : Primitive) (b : List ℕ) → PrimitiveData (format c) p b → kind_at c ≡ Some (kind_of p)
unfolding kind_at
kind_data c = at_code IsOneKind (λ p b h. absurd h) constructors one_kinds c

abbrev pub OneOf : ℕ → List ℕ → Type 0
OneOf c [] = ⊥
OneOf c (x ∷ xs) = (c ≡ x) ⊎ OneOf c xs

is_kind_same : (k : ℕ) (o : Option ℕ) → o ≡ Some k → is_kind k o ≡ true
is_kind_same k None e = cc
is_kind_same k (Some n) e = eq-eqb n k (cc)

more_codes : (c x : ℕ) (b : Bool) (xs : List ℕ) → OneOf c xs → OneOf c (cond b (x ∷ xs) xs)
more_codes c x true xs h = inr h
more_codes c x false xs h = h

code_at : (c k : ℕ) (row : ℕ × Format) (rows : List (ℕ × Format)) (t : Bool) → eqb c row.0 ≡ t
    → (kind_under (look_up c rows) ≡ Some k → OneOf c (codes_in k rows))
    → kind_under (cond t row.1 (look_up c rows)) ≡ Some k
    → OneOf c (cond (is_kind k (kind_under row.1)) (row.0 ∷ codes_in k rows) (codes_in k rows))
code_at c k row rows true s f e =
    subst (λ b. OneOf c (cond b (row.0 ∷ codes_in k rows) (codes_in k rows))) (sym (is_kind_same k (kind_under row.1) e))
    (inl (eqb-true c row.0 s))
code_at c k row rows false s f e = more_codes c row.0 (is_kind k (kind_under row.1)) (codes_in k rows) (f e)

code_in : (c k : ℕ) (rows : List (ℕ × Format)) → kind_under (look_up c rows) ≡ Some k → OneOf c (codes_in k rows)
code_in c k [] e = cc
code_in c k (row ∷ rows) e = code_at c k row rows (eqb c row.0) refl (λ f. code_in c k rows f) e

-- nothing of a kind stands under another code than those of the kind
pub kind_codes : (c k : ℕ) → kind_at c ≡ Some k → OneOf c (codes_of k)
unfolding kind_at
kind_codes c k e = code_in c k constructors e

pub kind_is : (c k : ℕ) → kind_under (format c) ≡ Some k → kind_at c ≡ Some k
unfolding kind_at
kind_is c k e = e

-- a kind that has one code
pub one_code : (k code : ℕ) → codes_of k ≡ code ∷ [] → (c : ℕ) → kind_at c ≡ Some k → c ≡ code
one_code k code e c h = elim (subst (OneOf c) e (kind_codes c k h)) [ inl x ↦ x | inr x ↦ absurd x ]

-- kinds that have two codes or three
pub not_two : (k c a b : ℕ) → codes_of k ≡ a ∷ b ∷ [] → (c ≡ a → ⊥) → (c ≡ b → ⊥) → kind_at c ≡ Some k → ⊥
not_two k c a b e f g h = elim (subst (OneOf c) e (kind_codes c k h)) [ inl x ↦ f x | inr x ↦ elim x [ inl y ↦ g y | inr y ↦ absurd y ] ]

pub not_three : (k c a b d : ℕ) → codes_of k ≡ a ∷ b ∷ d ∷ [] → (c ≡ a → ⊥) → (c ≡ b → ⊥) → (c ≡ d → ⊥) → kind_at c ≡ Some k → ⊥
not_three k c a b d e f g i h =
    elim (subst (OneOf c) e (kind_codes c k h)) [
      | inl x ↦ f x
      | inr x ↦ elim x [ inl y ↦ g y | inr y ↦ elim y [ inl z ↦ i z | inr z ↦ absurd z ] ]
    ]
