-- Lemmas of pairs in the order of their keys.
use Rattle.std.proofs.Common.{◌≡◌, Bool, true, false, cond, List, [], ◌∷◌, ◌++◌, refl, sym, ap, ◌∙◌, subst, Ordering, Less, Equal, Greater}
use Rattle.std.specs.Ordering.{is_eq, is_gt, ordering_reverse, match_ordering}
use Rattle.std.specs.BTreeMap.{insert_entry}
use Rattle.std.specs.Cmp.{alike_right, upto, Equal-is}
use Rattle.std.specs.List.{AllByRecursion}
use Rattle.std.specs.List.Sorted.{IsStrictlySortedBy}
use Rattle.std.specs.Map.{keys_of}
use Rattle.amqp_model.specs.laws.Item.{clash}
use Rattle.amqp_codec.specs.laws.ItemsType.{by_test}
use Rattle.amqp_codec.specs.Pairs.{IsNew, HaveOtherKeys, SamePairs, with_values}
use Rattle.amqp_codec.specs.KeyOrder.{place, in_order, IsOrderOf}

either_way : {X : Type 0} (P : X → Type 0) (b : Bool) (x y : X) → (b ≡ true → P x) → (b ≡ false → P y) → P (cond b x y)
either_way P true x y f g = f refl
either_way P false x y f g = g refl

greater : (o : Ordering) → is_gt o ≡ true → o ≡ Greater
greater Less e = absurd (clash e refl)
greater Equal e = absurd (clash e refl)
greater Greater e = refl

less : (o : Ordering) → is_gt o ≡ false → (o ≡ Equal → ⊥) → o ≡ Less
less Less e n = refl
less Equal e n = absurd (n refl)
less Greater e n = absurd (clash refl e)

-- The order of pairs counts in no relation that is one of the pairs one by one.
module _ {K V : Type 0} (cmp : K → K → Ordering) (R : List (K × V) → List (K × V) → Type 0) (itself : (ps : List (K × V)) → R ps ps)
    (then : (ps qs rs : List (K × V)) → R ps qs → R qs rs → R ps rs)
    (behind : (p : K × V) (ps qs : List (K × V)) → R ps qs → R (p ∷ ps) (p ∷ qs))
    (swapped : (p q : K × V) (ps : List (K × V)) → R (p ∷ q ∷ ps) (q ∷ p ∷ ps)) where
  pub placed : (p : K × V) (qs : List (K × V)) → R (p ∷ qs) (place cmp p qs)
  placed p [] = itself (p ∷ [])
  placed p (q ∷ qs) = either_way (R (p ∷ q ∷ qs)) (is_gt (cmp p.0 q.0)) (q ∷ place cmp p qs) (p ∷ q ∷ qs)
      (λ _. then (p ∷ q ∷ qs) (q ∷ p ∷ qs) (q ∷ place cmp p qs) (swapped p q qs) (behind q (p ∷ qs) (place cmp p qs) (placed p qs)))
      (λ _. itself (p ∷ q ∷ qs))

  pub ordered : (ps : List (K × V)) → R ps (in_order cmp ps)
  ordered [] = itself []
  ordered (p ∷ ps) = then (p ∷ ps) (p ∷ in_order cmp ps) (place cmp p (in_order cmp ps)) (behind p ps (in_order cmp ps) (ordered ps))
      (placed p (in_order cmp ps))

-- What holds of pairs one by one holds of them in order, and the other way round.
module _ {K V : Type 0} (cmp : K → K → Ordering) (F : List (K × V) → Type 0)
    (behind : (p : K × V) (ps qs : List (K × V)) → (F ps → F qs) → F (p ∷ ps) → F (p ∷ qs))
    (swapped : (p q : K × V) (ps : List (K × V)) → F (p ∷ q ∷ ps) → F (q ∷ p ∷ ps)) where
  pub still_placed : (p : K × V) (ps : List (K × V)) → F (p ∷ ps) → F (place cmp p ps)
  still_placed = placed cmp (λ ps qs. F ps → F qs) (λ ps h. h) (λ ps qs rs f g h. g (f h)) behind swapped

  pub still_in_order : (ps : List (K × V)) → F ps → F (in_order cmp ps)
  still_in_order = ordered cmp (λ ps qs. F ps → F qs) (λ ps h. h) (λ ps qs rs f g h. g (f h)) behind swapped

  pub before_order : (ps : List (K × V)) → F (in_order cmp ps) → F ps
  before_order = ordered cmp (λ ps qs. F qs → F ps) (λ ps h. h) (λ ps qs rs f g h. f (g h)) (λ p ps qs f. behind p qs ps f)
      (λ p q ps. swapped q p ps)

-- A key is no other's in whatever order.
module _ {K V : Type 0} (cmp : K → K → Ordering) (same : K → K → Type 0) (k : K) where
  new_behind : (p : K × V) (ps qs : List (K × V)) → (IsNew same k ps → IsNew same k qs) → IsNew same k (p ∷ ps) → IsNew same k (p ∷ qs)
  new_behind p ps qs f h = (h.0, f h.1)

  new_swapped : (p q : K × V) (ps : List (K × V)) → IsNew same k (p ∷ q ∷ ps) → IsNew same k (q ∷ p ∷ ps)
  new_swapped p q ps h = (h.1.0, (h.0, h.1.1))

  pub new_in_order : (ps : List (K × V)) → IsNew same k ps → IsNew same k (in_order cmp ps)
  new_in_order = still_in_order cmp (IsNew same k) new_behind new_swapped

  pub new_before : (ps : List (K × V)) → IsNew same k (in_order cmp ps) → IsNew same k ps
  new_before = before_order cmp (IsNew same k) new_behind new_swapped

-- Values aren't looked at.
module _ {K V : Type 0} (cmp : K → K → Ordering) (f : V → V) where
  either_alike : (b : Bool) (ps qs rs : List (K × V)) → ps ≡ with_values f qs
      → cond b ps (with_values f rs) ≡ with_values f (cond b qs rs)
  either_alike true ps qs rs e = e
  either_alike false ps qs rs e = refl

  place_alike : (p : K × V) (qs : List (K × V)) → place cmp (p.0, f p.1) (with_values f qs) ≡ with_values f (place cmp p qs)
  place_alike p [] = refl
  place_alike p (q ∷ qs) =
      either_alike (is_gt (cmp p.0 q.0)) ((q.0, f q.1) ∷ place cmp (p.0, f p.1) (with_values f qs)) (q ∷ place cmp p qs) (p ∷ q ∷ qs)
      (ap (λ rs. (q.0, f q.1) ∷ rs) (place_alike p qs))

  pub order_alike : (ps : List (K × V)) → in_order cmp (with_values f ps) ≡ with_values f (in_order cmp ps)
  order_alike [] = refl
  order_alike (p ∷ ps) = ap (λ qs. place cmp (p.0, f p.1) qs) (order_alike ps) ∙ place_alike p (in_order cmp ps)

-- Pairs that are in order stay as they are.
module _ {K V : Type 0} (cmp : K → K → Ordering) where
  first_of : (p : K × V) (qs : List (K × V)) → AllByRecursion (λ k. cmp p.0 k ≡ Less) (keys_of qs) → place cmp p qs ≡ p ∷ qs
  first_of p [] h = refl
  first_of p (q ∷ qs) h = ap (λ o. cond (is_gt o) (q ∷ place cmp p qs) (p ∷ q ∷ qs)) h.0

  pub once_in_order : (ps : List (K × V)) → IsStrictlySortedBy cmp (keys_of ps) → in_order cmp ps ≡ ps
  unfolding IsStrictlySortedBy
  once_in_order [] h = refl
  once_in_order (p ∷ ps) h = ap (place cmp p) (once_in_order ps h.1) ∙ first_of p ps h.0

-- Of a total order whose ties are the same key.
module _ {K : Type 0} {cmp : K → K → Ordering} {same : K → K → Type 0} (o : IsOrderOf cmp same) where
  tied : (k l : K) → same k l → cmp k l ≡ Equal
  tied k l s = (Equal-is (cmp k l)).0 ((o.ties k l).1 s)

  alike : (k l m n : K) → same k l → same m n → cmp k m ≡ cmp l n
  alike k l m n s z = o.total.congr k l m (tied k l s) ∙ alike_right o.total m n l (tied m n z)

  not_tied : (k l : K) → (same k l → ⊥) → cmp k l ≡ Equal → ⊥
  not_tied k l n e = n ((o.ties k l).0 (ap is_eq e))

  below : (k l : K) → (same k l → ⊥) → is_gt (cmp k l) ≡ false → cmp k l ≡ Less
  below k l n e = less (cmp k l) e (not_tied k l n)

  above : (k l : K) → is_gt (cmp k l) ≡ true → cmp l k ≡ Less
  above k l e = o.total.antisymm l k ∙ ap ordering_reverse (greater (cmp k l) e)

  apart : (k l : K) → cmp k l ≡ Less → same k l → ⊥
  apart k l e s = clash ((o.ties k l).1 s) (ap is_eq e)

  module _ {V : Type 0} where
    pub new_below : (k : K) (ps : List (K × V)) → AllByRecursion (λ l. cmp k l ≡ Less) (keys_of ps) → IsNew same k ps
    new_below k [] h = tt
    new_below k (p ∷ ps) h = (apart k p.0 h.0, new_below k ps h.1)

    -- no two keys in order are the same,
    pub sorted_others : (ps : List (K × V)) → IsStrictlySortedBy cmp (keys_of ps) → HaveOtherKeys same ps
    unfolding IsStrictlySortedBy
    sorted_others [] h = tt
    sorted_others (p ∷ ps) h = (new_below p.0 ps h.0, sorted_others ps h.1)

    all_above : (k : K) (p : K × V) (ps : List (K × V)) → cmp k p.0 ≡ Less → AllByRecursion (λ l. cmp p.0 l ≡ Less) (keys_of ps)
        → AllByRecursion (λ l. cmp k l ≡ Less) (keys_of ps)
    all_above k p [] e h = tt
    all_above k p (q ∷ qs) e h = (o.total.trans k p.0 q.0 e h.0, all_above k p qs e h.1)

    place_sorted : (p : K × V) (ps : List (K × V)) → IsNew same p.0 ps → IsStrictlySortedBy cmp (keys_of ps)
        → IsStrictlySortedBy cmp (keys_of (place cmp p ps))
    unfolding IsStrictlySortedBy
    place_sorted p [] n h = (tt, tt)
    place_sorted p (q ∷ qs) n h = either_way (λ rs. IsStrictlySortedBy cmp (keys_of rs)) (is_gt (cmp p.0 q.0)) (q ∷ place cmp p qs)
        (p ∷ q ∷ qs)
        (λ e. (
          still_placed cmp (λ rs. AllByRecursion (λ l. cmp q.0 l ≡ Less) (keys_of rs)) (λ r rs ss f i. (i.0, f i.1))
              (λ r s rs i. (i.1.0, (i.0, i.1.1))) p qs (above p.0 q.0 e, h.0),
          place_sorted p qs n.1 h.1,
        ))
        (λ e. (let l = below p.0 q.0 n.0 e in ((l, all_above p.0 q qs l h.0), h)))

    -- and pairs whose keys are others are sorted
    pub others_sorted : (ps : List (K × V)) → HaveOtherKeys same ps → IsStrictlySortedBy cmp (keys_of (in_order cmp ps))
    unfolding IsStrictlySortedBy
    others_sorted [] h = tt
    others_sorted (p ∷ ps) h = place_sorted p (in_order cmp ps) (new_in_order cmp same p.0 ps h.0) (others_sorted ps h.1)

    -- of two keys that aren't the same, either is placed first
    swap_first : (p q : K × V) (rs : List (K × V)) → (same p.0 q.0 → ⊥) → is_gt (cmp p.0 q.0) ≡ false
        → place cmp q (p ∷ rs) ≡ p ∷ place cmp q rs
    swap_first p q rs n e =
        let l : cmp q.0 p.0 ≡ Greater = o.total.antisymm q.0 p.0 ∙ ap ordering_reverse (below p.0 q.0 n e) in
        ap (λ x. cond (is_gt x) (p ∷ place cmp q rs) (q ∷ p ∷ rs)) l

    in_front : (p q : K × V) (rs : List (K × V)) → is_gt (cmp p.0 q.0) ≡ false → place cmp p (q ∷ rs) ≡ p ∷ q ∷ rs
    in_front p q rs e = ap (λ b. cond b (q ∷ place cmp p rs) (p ∷ q ∷ rs)) e

    behind_it : (p q : K × V) (rs : List (K × V)) → is_gt (cmp p.0 q.0) ≡ true → place cmp p (q ∷ rs) ≡ q ∷ place cmp p rs
    behind_it p q rs e = ap (λ b. cond b (q ∷ place cmp p rs) (p ∷ q ∷ rs)) e

    both_first : (p q : K × V) (rs : List (K × V)) → (same p.0 q.0 → ⊥) → place cmp p rs ≡ p ∷ rs → place cmp q rs ≡ q ∷ rs
        → place cmp q (p ∷ rs) ≡ place cmp p (q ∷ rs)
    both_first p q rs n e d = by_test (is_gt (cmp p.0 q.0)) (place cmp q (p ∷ rs) ≡ place cmp p (q ∷ rs))
        (λ g. in_front q p rs (ap is_gt (above p.0 q.0 g)) ∙ sym (behind_it p q rs g ∙ ap (λ x. q ∷ x) e))
        (λ g. swap_first p q rs n g ∙ ap (λ x. p ∷ x) d ∙ sym (in_front p q rs g))

    one_first : (p q r : K × V) (rs : List (K × V)) → is_gt (cmp p.0 r.0) ≡ true → is_gt (cmp q.0 r.0) ≡ false
        → place cmp q (place cmp p (r ∷ rs)) ≡ place cmp p (place cmp q (r ∷ rs))
    one_first p q r rs g h =
        let over : is_gt (cmp p.0 q.0) ≡ true = by_test (is_gt (cmp p.0 q.0)) (is_gt (cmp p.0 q.0) ≡ true) (λ e. e)
        (λ e. absurd (clash g (upto o.total p.0 q.0 r.0 e h))) in
        ap (place cmp q) (behind_it p r rs g) ∙ in_front q r (place cmp p rs) h
        ∙ sym (ap (place cmp p) (in_front q r rs h) ∙ behind_it p q (r ∷ rs) over ∙ ap (λ x. q ∷ x) (behind_it p r rs g))

    placed_either : (p q : K × V) (rs : List (K × V)) → (same p.0 q.0 → ⊥) → (same q.0 p.0 → ⊥)
        → place cmp q (place cmp p rs) ≡ place cmp p (place cmp q rs)
    placed_either p q [] n m = both_first p q [] n refl refl
    placed_either p q (r ∷ rs) n m = by_test (is_gt (cmp p.0 r.0)) (place cmp q (place cmp p (r ∷ rs)) ≡ place cmp p (place cmp q (r ∷ rs)))
        (λ g. by_test (is_gt (cmp q.0 r.0)) (place cmp q (place cmp p (r ∷ rs)) ≡ place cmp p (place cmp q (r ∷ rs)))
        (λ h. ap (place cmp q) (behind_it p r rs g) ∙ behind_it q r (place cmp p rs) h ∙ ap (λ x. r ∷ x) (placed_either p q rs n m)
        ∙ sym (ap (place cmp p) (behind_it q r rs h) ∙ behind_it p r (place cmp q rs) g))
        (λ h. one_first p q r rs g h))
        (λ g. by_test (is_gt (cmp q.0 r.0)) (place cmp q (place cmp p (r ∷ rs)) ≡ place cmp p (place cmp q (r ∷ rs)))
        (λ h. sym (one_first q p r rs h g))
        (λ h. ap (place cmp q) (in_front p r rs g) ∙ both_first p q (r ∷ rs) n (in_front p r rs g) (in_front q r rs h)
        ∙ sym (ap (place cmp p) (in_front q r rs h))))

    -- a pair that comes last is placed among those before it
    pub one_more_in_order : (ps : List (K × V)) (p : K × V) → ((k l : K) → same k l → same l k) → IsNew same p.0 ps
        → in_order cmp (ps ++ p ∷ []) ≡ place cmp p (in_order cmp ps)
    one_more_in_order [] p s h = refl
    one_more_in_order (q ∷ qs) p s h =
        ap (place cmp q) (one_more_in_order qs p s h.1)
        ∙ placed_either p q (in_order cmp qs) h.0 (λ e. h.0 (s q.0 p.0 e))

    one_side : (x : Ordering) (qs rs ss ts : List (K × V)) → (x ≡ Equal → ⊥) → ss ≡ ts → match_ordering x qs rs ss ≡ cond (is_gt x) ts qs
    one_side Less qs rs ss ts n e = refl
    one_side Equal qs rs ss ts n e = absurd (n refl)
    one_side Greater qs rs ss ts n e = e

    -- a new key is inserted in its place
    pub inserted_in_place : (k : K) (v : V) (ps : List (K × V)) → IsNew same k ps → insert_entry cmp ps k v ≡ place cmp (k, v) ps
    inserted_in_place k v [] h = refl
    inserted_in_place k v (p ∷ ps) h =
        one_side (cmp k p.0) ((k, v) ∷ p ∷ ps) ((p.0, v) ∷ ps) (p ∷ insert_entry cmp ps k v) (p ∷ place cmp (k, v) ps) (not_tied k p.0 h.0)
        (ap (λ x. p ∷ x) (inserted_in_place k v ps h.1))

  -- Pairs that are the same are in one order.
  module _ {V : Type 0} (alike_values : V → V → Type 0) where
    abbrev Same : List (K × V) → List (K × V) → Type 0
    Same = SamePairs same alike_values

    abbrev SamePair : K × V → K × V → Type 0
    SamePair p q = same p.0 q.0 × alike_values p.1 q.1

    two_ways : (b : Bool) (ps qs rs ss : List (K × V)) → Same ps rs → Same qs ss → Same (cond b ps qs) (cond b rs ss)
    two_ways true ps qs rs ss s z = s
    two_ways false ps qs rs ss s z = z

    same_place : (p q : K × V) (ps qs : List (K × V)) → SamePair p q → Same ps qs → Same (place cmp p ps) (place cmp q qs)
    same_place p q [] [] e s = (e, tt)
    same_place p q [] (r ∷ rs) e s = absurd s
    same_place p q (r ∷ rs) [] e s = absurd s
    same_place p q (r ∷ rs) (t ∷ ts) e s =
        subst (λ b. Same (place cmp p (r ∷ rs)) (cond b (t ∷ place cmp q ts) (q ∷ t ∷ ts))) (ap is_gt (alike p.0 q.0 r.0 t.0 e.0 s.0.0))
        (two_ways (is_gt (cmp p.0 r.0)) (r ∷ place cmp p rs) (p ∷ r ∷ rs) (t ∷ place cmp q ts) (q ∷ t ∷ ts)
        (s.0, same_place p q rs ts e s.1) (e, s))

    pub same_in_order : (ps qs : List (K × V)) → Same ps qs → Same (in_order cmp ps) (in_order cmp qs)
    same_in_order [] [] s = tt
    same_in_order [] (q ∷ qs) s = absurd s
    same_in_order (p ∷ ps) [] s = absurd s
    same_in_order (p ∷ ps) (q ∷ qs) s = same_place p q (in_order cmp ps) (in_order cmp qs) s.0 (same_in_order ps qs s.1)

    below_alike : (k l : K) (ps qs : List (K × V)) → same k l → Same ps qs → AllByRecursion (λ m. cmp k m ≡ Less) (keys_of ps)
        → AllByRecursion (λ m. cmp l m ≡ Less) (keys_of qs)
    below_alike k l [] [] e s h = tt
    below_alike k l [] (q ∷ qs) e s h = absurd s
    below_alike k l (p ∷ ps) [] e s h = absurd s
    below_alike k l (p ∷ ps) (q ∷ qs) e s h = (sym (alike k l p.0 q.0 e s.0.0) ∙ h.0, below_alike k l ps qs e s.1 h.1)

    pub sorted_alike : (ps qs : List (K × V)) → Same ps qs → IsStrictlySortedBy cmp (keys_of ps) → IsStrictlySortedBy cmp (keys_of qs)
    unfolding IsStrictlySortedBy
    sorted_alike [] [] s h = tt
    sorted_alike [] (q ∷ qs) s h = absurd s
    sorted_alike (p ∷ ps) [] s h = absurd s
    sorted_alike (p ∷ ps) (q ∷ qs) s h = (below_alike p.0 q.0 ps qs s.0.0 s.1 h.0, sorted_alike ps qs s.1 h.1)

    -- the pair and the others, where these were placed
    record Unplaced (p : K × V) (ps rs : List (K × V)) : Type 0 where
      pair : K × V
      others : List (K × V)
      same_pair : SamePair p pair
      same_others : Same ps others
      is : place cmp pair others ≡ rs

    unplaced_behind : (p r : K × V) (ps rs : List (K × V)) → is_gt (cmp p.0 r.0) ≡ true
        → ((ts : List (K × V)) → Same (place cmp p ps) ts → Unplaced p ps ts) → Same (r ∷ place cmp p ps) rs → Unplaced p (r ∷ ps) rs
    unplaced_behind p r ps [] g i s = absurd s
    unplaced_behind p r ps (t ∷ ts) g i s =
        let x = i ts s.1 in
        record {
          pair = x.pair;
          others = t ∷ x.others;
          same_pair = x.same_pair;
          same_others = (s.0, x.same_others);
          is = behind_it x.pair t x.others (sym (ap is_gt (alike p.0 x.pair.0 r.0 t.0 x.same_pair.0 s.0.0)) ∙ g) ∙ ap (λ y. t ∷ y) x.is;
        }

    unplaced_first : (p r : K × V) (ps rs : List (K × V)) → is_gt (cmp p.0 r.0) ≡ false → Same (p ∷ r ∷ ps) rs → Unplaced p (r ∷ ps) rs
    unplaced_first p r ps [] g s = absurd s
    unplaced_first p r ps (t ∷ []) g s = absurd s.1
    unplaced_first p r ps (t ∷ u ∷ ts) g s = record {
      pair = t;
      others = u ∷ ts;
      same_pair = s.0;
      same_others = s.1;
      is = in_front t u ts (sym (ap is_gt (alike p.0 t.0 r.0 u.0 s.0.0 s.1.0.0)) ∙ g);
    }

    unplaced : (p : K × V) (ps rs : List (K × V)) → Same (place cmp p ps) rs → Unplaced p ps rs
    unplaced p [] [] s = absurd s
    unplaced p [] (r ∷ []) s = record { pair = r; others = []; same_pair = s.0; same_others = tt; is = refl }
    unplaced p [] (r ∷ t ∷ ts) s = absurd s.1
    unplaced p (q ∷ qs) rs s = by_test (is_gt (cmp p.0 q.0)) (Unplaced p (q ∷ qs) rs)
        (λ g. unplaced_behind p q qs rs g (unplaced p qs) (subst (λ x. Same x rs) (behind_it p q qs g) s))
        (λ g. unplaced_first p q qs rs g (subst (λ x. Same x rs) (in_front p q qs g) s))

    -- what is the same as pairs in order is in order what is the same as they are
    pub same_as_ordered : (ps rs : List (K × V)) → Same (in_order cmp ps) rs → (qs : List (K × V)) × Same ps qs × (in_order cmp qs ≡ rs)
    same_as_ordered [] [] s = ([], tt, refl)
    same_as_ordered [] (r ∷ rs) s = absurd s
    same_as_ordered (p ∷ ps) rs s =
        let x = unplaced p (in_order cmp ps) rs s in
        let y = same_as_ordered ps x.others x.same_others in
        (x.pair ∷ y.0, (x.same_pair, y.1), ap (place cmp x.pair) y.2 ∙ x.is)
