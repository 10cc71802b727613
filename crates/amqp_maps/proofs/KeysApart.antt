-- The calls of a map keep its keys apart.
use Rattle.std.proofs.Common.{◌≡◌, suc, ◌≤◌, Bool, true, false, if◌then◌else◌, List, [], ◌∷◌, ◌++◌, None, length, ◌∙◌, refl, sym, ap, subst, arith, append_assoc}
use Rattle.std.specs.Cmp.{IsEquivalence}
use Rattle.std.specs.Cmp.Lexicographic.{pointwise}
use Rattle.std.specs.List.{IsDistinct, AllByRecursion}
use Rattle.std.specs.Map.{keys_of, lookup, remove_entry}
use Rattle.std.proofs.lemmas.Bool.{and_parts}
use Rattle.indexmap.specs.IndexMap.{insert_entry}
use Rattle.indexmap.proofs.MapLemmas.{absent_before, absent_from_lookup, insert_entry-absent}
use Rattle.amqp_maps.specs.Pairs.{HaveDistinctKeys}

-- by whether a test passes
by_test : {A : Type 0} (P : A → Type 0) (b : Bool) (x y : A) → (b ≡ true → P x) → (b ≡ false → P y) → P (if b then x else y)
by_test P true x y f g = f refl
by_test P false x y f g = g refl

-- what equals two keys that are apart is apart
apart_from_equal : {K : Type 0} (eq : K → K → Bool) → IsEquivalence eq → (j k l m : K) → eq j l ≡ true → eq k m ≡ true → eq j k ≡ false
    → eq l m ≡ false
apart_from_equal eq same j k l m e f h =
    sym (same.congr j l m e) ∙ same.symm j m ∙ sym (same.congr k m j f) ∙ same.symm k j ∙ h

module _ {K V : Type 0} (eq : K → K → Bool) where
  -- The key is none of the pairs'.
  abbrev IsOther : K → List (K × V) → Type 0
  IsOther k ps = AllByRecursion (λ y. eq k y ≡ false) (keys_of ps)

  other_inserted : (k key : K) (value : V) (ps : List (K × V)) → eq k key ≡ false → IsOther k ps → IsOther k (insert_entry eq ps key value)
  other_inserted k key value [] e h = (e, tt)
  other_inserted k key value (p ∷ ps) e h =
      by_test (IsOther k) (eq key p.0) ((p.0, value) ∷ ps) (p ∷ insert_entry eq ps key value) (λ t. h)
      (λ f. (h.0, other_inserted k key value ps e h.1))

  other_removed : (test : K → Bool) (k : K) (ps : List (K × V)) → IsOther k ps → IsOther k (remove_entry test ps)
  other_removed test k [] h = h
  other_removed test k (p ∷ ps) h =
      by_test (IsOther k) (test p.0) ps (p ∷ remove_entry test ps) (λ t. h.1) (λ f. (h.0, other_removed test k ps h.1))

  pub removed_distinct : (test : K → Bool) (ps : List (K × V)) → HaveDistinctKeys eq ps → HaveDistinctKeys eq (remove_entry test ps)
  unfolding IsDistinct
  removed_distinct test [] h = h
  removed_distinct test (p ∷ ps) h =
      by_test (HaveDistinctKeys eq) (test p.0) ps (p ∷ remove_entry test ps) (λ t. h.1)
      (λ f. (other_removed test p.0 ps h.0, removed_distinct test ps h.1))

  module _ (same : IsEquivalence eq) where
    pub inserted_distinct : (key : K) (value : V) (ps : List (K × V)) → HaveDistinctKeys eq ps
        → HaveDistinctKeys eq (insert_entry eq ps key value)
    unfolding IsDistinct
    inserted_distinct key value [] h = (tt, tt)
    inserted_distinct key value (p ∷ ps) h =
        by_test (HaveDistinctKeys eq) (eq key p.0) ((p.0, value) ∷ ps) (p ∷ insert_entry eq ps key value) (λ t. h)
        (λ f. (other_inserted p.0 key value ps (same.symm p.0 key ∙ f) h.0, inserted_distinct key value ps h.1))

    -- a pair of a new key was put last
    pub added_distinct : (key : K) (value : V) (ps qs : List (K × V)) → qs ≡ ps ++ (key, value) ∷ [] → lookup (eq key) ps ≡ None
        → HaveDistinctKeys eq ps → HaveDistinctKeys eq qs
    added_distinct key value ps qs is new h =
        subst (HaveDistinctKeys eq) (insert_entry-absent eq key value ps (absent_from_lookup (eq key) ps new) ∙ sym is)
        (inserted_distinct key value ps h)

    -- a pair of a key that comes later goes last
    pub next_last : (ps : List (K × V)) (p : K × V) (qs : List (K × V)) → HaveDistinctKeys eq (ps ++ p ∷ qs)
        → insert_entry eq ps p.0 p.1 ≡ ps ++ p ∷ []
    next_last ps p qs h = insert_entry-absent eq p.0 p.1 ps (absent_from_lookup (eq p.0) ps (absent_before same ps qs p h))

    -- the next pair of a row is put behind those before it. row: all of them; new: those that are put then
    pub moved_on : (ps : List (K × V)) (p : K × V) (qs rest row new : List (K × V)) → HaveDistinctKeys eq row → ps ++ rest ≡ row
        → rest ≡ p ∷ qs → new ≡ insert_entry eq ps p.0 p.1 → new ++ qs ≡ row
    moved_on ps p qs rest row new apart was took put =
        let whole : ps ++ p ∷ qs ≡ row = ap (λ l. ps ++ l) (sym took) ∙ was in
        ap (λ l. l ++ qs) (put ∙ next_last ps p qs (subst (HaveDistinctKeys eq) (sym whole) apart)) ∙ append_assoc ps (p ∷ []) qs ∙ whole

    other_copied : (j l : K) (ps qs : List (K × V)) → eq j l ≡ true → pointwise (λ p q. eq p.0 q.0) ps qs ≡ true → IsOther j ps
        → IsOther l qs
    other_copied j l [] [] e h o = tt
    other_copied j l [] (q ∷ qs) e h o = absurd (cc)
    other_copied j l (p ∷ ps) [] e h o = absurd (cc)
    other_copied j l (p ∷ ps) (q ∷ qs) e h o =
        let both = and_parts (eq p.0 q.0) (pointwise (λ p q. eq p.0 q.0) ps qs) h in
        (apart_from_equal eq same j p.0 l q.0 e both.0 o.0, other_copied j l ps qs e both.1 o.1)

    -- keys that equal those of a map, each the one in its place, are apart too
    pub copied_distinct : (ps qs : List (K × V)) → pointwise (λ p q. eq p.0 q.0) ps qs ≡ true → HaveDistinctKeys eq ps
        → HaveDistinctKeys eq qs
    unfolding IsDistinct
    copied_distinct [] [] e h = tt
    copied_distinct [] (q ∷ qs) e h = absurd (cc)
    copied_distinct (p ∷ ps) [] e h = absurd (cc)
    copied_distinct (p ∷ ps) (q ∷ qs) e h =
        let both = and_parts (eq p.0 q.0) (pointwise (λ p q. eq p.0 q.0) ps qs) e in
        (other_copied p.0 q.0 ps qs both.0 both.1 h.0, copied_distinct ps qs both.1 h.1)

pub none_distinct : {K : Type 0} (V : Type 0) (eq : K → K → Bool) → HaveDistinctKeys {V = V} eq []
unfolding IsDistinct
none_distinct V eq = tt

-- rows that are equal have one length
pub equal_long : {X Y : Type 0} (e : X → Y → Bool) (xs : List X) (ys : List Y) → pointwise e xs ys ≡ true → length ys ≡ length xs
equal_long e [] [] h = refl
equal_long e [] (y ∷ ys) h = absurd (cc)
equal_long e (x ∷ xs) [] h = absurd (cc)
equal_long e (x ∷ xs) (y ∷ ys) h = ap suc (equal_long e xs ys (and_parts (e x y) (pointwise e xs ys) h).1)

-- an item was put behind others that had been kept
pub put_behind : {X : Type 0} (new kept old : List X) (x : X) → new ≡ kept ++ x ∷ [] → kept ≡ old → new ≡ old ++ x ∷ []
put_behind new kept old x put same = put ∙ ap (λ xs. xs ++ x ∷ []) same

-- a pair is removed at most
pub fewer_removed : {K V : Type 0} (test : K → Bool) (ps : List (K × V)) → length (remove_entry test ps) ≤ length ps
fewer_removed test [] = omega arith
fewer_removed test (p ∷ ps) =
    by_test (λ qs. length qs ≤ length (p ∷ ps)) (test p.0) ps (p ∷ remove_entry test ps) (λ _. omega arith)
    (λ _. let h = fewer_removed test ps in omega arith)
