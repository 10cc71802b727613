-- Calls of a map keep its keys apart, and so tells what is known of their row or of their digests.
use Rattle.std.proofs.Common.{◌≡◌, ℕ, Bool, true, false, not, ◌||◌, if◌then◌else◌, List, [], ◌∷◌, map, ◌∙◌, refl, sym, ap, subst, arith}
use Rattle.std.specs.Bool.{Decides}
use Rattle.std.specs.List.{IsDistinct, AllByRecursion}
use Rattle.std.specs.Ordering.{eq_by_cmp, nat_cmp, is_eq}
use Rattle.std.specs.Map.{remove_entry}
use Rattle.indexmap.specs.IndexMap.{insert_entry}
use Rattle.amqp_codec.specs.EqualKeys.{is_among_keys, has_equal_keys}
use Rattle.amqp_values.specs.declared.value.Value.{Value}
use Rattle.amqp_values.specs.Digests.{value_digest, digests_alike}
use Rattle.amqp_values.specs.Equality.{value_eq, turn_terms}
use Rattle.amqp_values.specs.laws.Equality.{values_equiv}
use Rattle.amqp_values.specs.Order.{value_cmp}
use Rattle.amqp_values.specs.laws.Order.{values_tied}
use Rattle.amqp_values.specs.Maps.{HaveDistinctKeys}
use Rattle.amqp_values.specs.Values.{value_term}

-- The key is none of the pairs'.
abbrev IsOther : Value → List (Value × Value) → Type 0
IsOther k ps = is_among_keys (value_term k) (turn_terms ps) ≡ false

neither : (b c : Bool) → b || c ≡ false → (b ≡ false) × (c ≡ false)
neither true c h = absurd (cc)
neither false c h = (refl, h)

both_false : (b c : Bool) → b ≡ false → c ≡ false → b || c ≡ false
both_false true c e h = e
both_false false c e h = h

-- by whether a test passes
by_test : {A : Type 0} (P : A → Type 0) (b : Bool) (x y : A) → (b ≡ true → P x) → (b ≡ false → P y) → P (if b then x else y)
by_test P true x y f g = f refl
by_test P false x y f g = g refl

module _ (key value : Value) where
  other_inserted : (k : Value) (ps : List (Value × Value)) → value_eq k key ≡ false → IsOther k ps
      → IsOther k (insert_entry value_eq ps key value)
  other_inserted k [] e h = both_false (value_eq k key) false e refl
  other_inserted k (p ∷ ps) e h =
      let n = neither (value_eq k p.0) (is_among_keys (value_term k) (turn_terms ps)) h in
      by_test (IsOther k) (value_eq key p.0) ((p.0, value) ∷ ps) (p ∷ insert_entry value_eq ps key value) (λ t. h)
      (λ f. both_false (value_eq k p.0) _ n.0 (other_inserted k ps e n.1))

  pub inserted_distinct : (ps : List (Value × Value)) → HaveDistinctKeys ps → HaveDistinctKeys (insert_entry value_eq ps key value)
  inserted_distinct [] h = refl
  inserted_distinct (p ∷ ps) h =
      let n = neither (is_among_keys (value_term p.0) (turn_terms ps)) (has_equal_keys (turn_terms ps)) h in
      by_test HaveDistinctKeys (value_eq key p.0) ((p.0, value) ∷ ps) (p ∷ insert_entry value_eq ps key value) (λ t. h)
      (λ f. both_false _ _ (other_inserted p.0 ps (values_equiv.symm p.0 key ∙ f) n.0) (inserted_distinct ps n.1))

module _ (test : Value → Bool) where
  other_removed : (k : Value) (ps : List (Value × Value)) → IsOther k ps → IsOther k (remove_entry test ps)
  other_removed k [] h = h
  other_removed k (p ∷ ps) h =
      let n = neither (value_eq k p.0) (is_among_keys (value_term k) (turn_terms ps)) h in
      by_test (IsOther k) (test p.0) ps (p ∷ remove_entry test ps) (λ t. n.1)
      (λ f. both_false (value_eq k p.0) _ n.0 (other_removed k ps n.1))

  pub removed_distinct : (ps : List (Value × Value)) → HaveDistinctKeys ps → HaveDistinctKeys (remove_entry test ps)
  removed_distinct [] h = h
  removed_distinct (p ∷ ps) h =
      let n = neither (is_among_keys (value_term p.0) (turn_terms ps)) (has_equal_keys (turn_terms ps)) h in
      by_test HaveDistinctKeys (test p.0) ps (p ∷ remove_entry test ps) (λ t. n.1)
      (λ f. both_false _ _ (other_removed p.0 ps n.0) (removed_distinct ps n.1))

-- what is apart by one test is so by another of what is made of it
module _ {A B : Type 0} (d : A → A → Bool) (e : B → B → Bool) (f : A → B) where
  none_made : ((x y : A) → d x y ≡ false → e (f x) (f y) ≡ false) → (x : A) (xs : List A)
      → AllByRecursion (λ y. d x y ≡ false) xs → AllByRecursion (λ y. e (f x) y ≡ false) (map f xs)
  none_made so x [] h = tt
  none_made so x (y ∷ ys) h = (so x y h.0, none_made so x ys h.1)

  apart_made : ((x y : A) → d x y ≡ false → e (f x) (f y) ≡ false) → (xs : List A) → IsDistinct d xs → IsDistinct e (map f xs)
  unfolding IsDistinct
  apart_made so [] h = tt
  apart_made so (x ∷ xs) h = (none_made so x xs h.0, apart_made so xs h.1)

  none_before : ((x y : A) → e (f x) (f y) ≡ false → d x y ≡ false) → (x : A) (xs : List A)
      → AllByRecursion (λ y. e (f x) y ≡ false) (map f xs) → AllByRecursion (λ y. d x y ≡ false) xs
  none_before so x [] h = tt
  none_before so x (y ∷ ys) h = (so x y h.0, none_before so x ys h.1)

  apart_before : ((x y : A) → e (f x) (f y) ≡ false → d x y ≡ false) → (xs : List A) → IsDistinct e (map f xs) → IsDistinct d xs
  unfolding IsDistinct
  apart_before so [] h = tt
  apart_before so (x ∷ xs) h = (none_before so x xs h.0, apart_before so xs h.1)

-- pairs by their keys
abbrev other_keys : Value × Value → Value × Value → Bool
other_keys p q = value_eq p.0 q.0

none_among : (p : Value × Value) (ps : List (Value × Value)) → AllByRecursion (λ q. other_keys p q ≡ false) ps → IsOther p.0 ps
none_among p [] h = refl
none_among p (q ∷ qs) h = both_false (value_eq p.0 q.0) _ h.0 (none_among p qs h.1)

among_none : (p : Value × Value) (ps : List (Value × Value)) → IsOther p.0 ps → AllByRecursion (λ q. other_keys p q ≡ false) ps
among_none p [] h = tt
among_none p (q ∷ qs) h = let n = neither (value_eq p.0 q.0) (is_among_keys (value_term p.0) (turn_terms qs)) h in (n.0, among_none p qs n.1)

distinct_from : (ps : List (Value × Value)) → IsDistinct other_keys ps → HaveDistinctKeys ps
unfolding IsDistinct
distinct_from [] h = refl
distinct_from (p ∷ ps) h = both_false (is_among_keys (value_term p.0) (turn_terms ps)) _ (none_among p ps h.0) (distinct_from ps h.1)

distinct_to : (ps : List (Value × Value)) → HaveDistinctKeys ps → IsDistinct other_keys ps
unfolding IsDistinct
distinct_to [] h = tt
distinct_to (p ∷ ps) h =
    let n = neither (is_among_keys (value_term p.0) (turn_terms ps)) (has_equal_keys (turn_terms ps)) h in
    (among_none p ps n.0, distinct_to ps n.1)

-- keys whose digests are apart are apart
unlike : (p q : Value × Value) (b : Bool) → other_keys p q ≡ b → eq_by_cmp nat_cmp (value_digest p.0) (value_digest q.0) ≡ false → b ≡ false
unlike p q false e n = refl
unlike p q true e n = absurd (itself (value_digest q.0) (subst (λ d. is_eq (nat_cmp d (value_digest q.0)) ≡ false) (digests_alike p.0 q.0 e) n))
  where
    itself : (n : ℕ) → is_eq (nat_cmp n n) ≡ false → ⊥
    itself n h = grind arith

pub digests_tell : (ps : List (Value × Value)) → IsDistinct (eq_by_cmp nat_cmp) (map (λ p. value_digest p.0) ps) → HaveDistinctKeys ps
digests_tell ps h =
    distinct_from ps
    (apart_before other_keys (eq_by_cmp nat_cmp) (λ p. value_digest p.0) (λ p q n. unlike p q (other_keys p q) refl n) ps h)

-- so does the row of keys, which are lent
module _ {R : Type 0} (now : R → Value) where
  abbrev lent_eq : R → R → Bool
  lent_eq x y = eq_by_cmp value_cmp (now x) (now y)

  tells : (b c : Bool) → Decides b (c ≡ false) → not b ≡ c
  tells true true d = cc (d.0 refl)
  tells true false d = refl
  tells false true d = refl
  tells false false d = absurd (cc (d.1 refl))

  pub keys_tell : (ps : List (Value × Value)) (ks : List R) (b : Bool) → map now ks ≡ map (λ p. p.0) ps
      → Decides b (IsDistinct lent_eq ks) → not b ≡ has_equal_keys (turn_terms ps)
  keys_tell ps ks b e d =
      let by_order = eq_by_cmp value_cmp in
      tells b (has_equal_keys (turn_terms ps)) (
        λ t. distinct_from ps
            (apart_before other_keys by_order (λ p. p.0) (λ p q n. values_tied p.0 q.0 ∙ n) ps
            (subst (IsDistinct by_order) e (apart_made lent_eq by_order now (λ x y n. n) ks (d.0 t)))),
        λ h. d.1 (apart_before lent_eq by_order now (λ x y n. n) ks
            (subst (IsDistinct by_order) (sym e)
            (apart_made other_keys by_order (λ p. p.0) (λ p q n. sym (values_tied p.0 q.0) ∙ n) ps (distinct_to ps h)))),
      )
