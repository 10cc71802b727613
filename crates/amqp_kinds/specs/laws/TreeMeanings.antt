-- What terms mean of a type whose values are their terms, by the kinds of these: primitives, described values and containers.
use Rattle.std.proofs.Common.{◌≡◌, inl, inr, ◌%◌, Bool, true, false, ◌||◌, cond, List, [], ◌∷◌, refl, sym, ap, ap₂, ◌∙◌, subst, arith}
use Rattle.amqp_model.specs.Term.{Primitive, Refusal, duplicate_key, Container, list, map, array, Descriptor, Term, Terms, leaf, container}
use Rattle.amqp_model.specs.Term.{described, barred, none, more, count}
use Rattle.amqp_model.specs.Standing.{Standing, whole}
use Rattle.amqp_model.specs.Ranges.{Everywhere, EverywhereIn, IsValue, IsInRange}
use Rattle.amqp_model.specs.Items.{IsFree, BarsAny}
use Rattle.amqp_model.specs.laws.Item.{clash}
use Rattle.amqp_codec.specs.EitherMeaning.{IsEither}
use Rattle.amqp_codec.specs.Each.{EachMeans, canons_of, IsListOrArray, MeansItems}
use Rattle.amqp_codec.specs.laws.ItemsType.{items_cases, by_test}
use Rattle.amqp_codec.specs.DescribedPairMeaning.{MeansPair, any_descriptor}
use Rattle.amqp_codec.specs.laws.DescribedPairType.{pair_cases}
use Rattle.amqp_codec.specs.Pairs.{in_turn, pair_canons, IsNew, HaveOtherKeys, MeansMap}
use Rattle.amqp_codec.specs.laws.Tree.{IsTree}
use Rattle.amqp_codec.specs.TreeType.{MeansTree, SameTree, tree_term}
use Rattle.amqp_codec.specs.EqualKeys.{is_ambiguous, is_among_keys, has_equal_keys, same_term, barred_maps, all_barred_maps}
use Rattle.amqp_codec.specs.laws.EqualKeys.{maps_free}
use Rattle.amqp_codec.specs.laws.EqualKeys.{terms_decide}

-- A term whose numbers and texts are of their types, and in none of whose maps two keys are equal.
abbrev pub IsMeant : Term → Type 0
IsMeant t = Everywhere IsValue t × IsFree (barred_maps t)

abbrev AreMeant : Terms → Type 0
AreMeant ts = EverywhereIn IsValue ts × ((r : Refusal) → BarsAny r (all_barred_maps ts) → ⊥)

-- the terms of a container
unbarred : (b : Bool) (k : Container) (us : Terms) → b ≡ false → ((r : Refusal) → BarsAny r us → ⊥)
    → IsFree (cond b (barred duplicate_key) (container k us))
unbarred true k us e h = absurd (clash refl e)
unbarred false k us e h = h

barred_in : (b : Bool) (k : Container) (us : Terms) → IsFree (cond b (barred duplicate_key) (container k us))
    → (b ≡ false) × ((r : Refusal) → BarsAny r us → ⊥)
barred_in true k us h = absurd (h duplicate_key refl)
barred_in false k us h = (refl, h)

container_meant : (k : Container) (ts : Terms) → IsValue (container k ts) → is_ambiguous k ts ≡ false → AreMeant ts
    → IsMeant (container k ts)
container_meant k ts i e h = ((i, h.0), unbarred (is_ambiguous k ts) k (all_barred_maps ts) e h.1)

meant_container : (k : Container) (ts : Terms) → IsMeant (container k ts) → (is_ambiguous k ts ≡ false) × AreMeant ts
meant_container k ts h = let b = barred_in (is_ambiguous k ts) k (all_barred_maps ts) h.1 in (b.0, (h.0.1, b.1))

-- an item more
more_meant : (t : Term) (ts : Terms) → IsMeant t → AreMeant ts → AreMeant (more t ts)
more_meant t ts h k = ((h.0, k.0), λ r i. elim i [ inl x ↦ h.1 r x | inr x ↦ k.1 r x ])

meant_more : (t : Term) (ts : Terms) → AreMeant (more t ts) → IsMeant t × AreMeant ts
meant_more t ts h = ((h.0.0, λ r i. h.1 r (inl i)), (h.0.1, λ r i. h.1 r (inr i)))

list_or_array : (k : Container) → IsListOrArray k → (ts : Terms) → IsValue (container k ts) × (is_ambiguous k ts ≡ false)
list_or_array list q ts = (tt, refl)
list_or_array map q ts = absurd q
list_or_array array q ts = (tt, refl)

-- keys and values in turn
abbrev pub turns : {V : Type 0} → List (V × V) → List V
turns [] = []
turns (p ∷ ps) = p.0 ∷ p.1 ∷ turns ps

module _ {V : Type 0} (term : V → Term) (are : (v : V) → IsTree (term v)) where
  abbrev Means : Standing → Term → V → Type 0
  Means = MeansTree term are

  abbrev Same : V → V → Type 0
  Same = SameTree term are

  means_so : (s : Standing) (t : Term) (v : V) → t ≡ term v → IsMeant (term v) → Means s t v
  means_so s t v e h = (e ∙ sym (maps_free (term v) h.1), h)

  -- a primitive
  pub leaf_means : (p : Primitive) (s : Standing) (t : Term) (v : V) → term v ≡ leaf p → (t ≡ leaf p) × IsInRange p → Means s t v
  leaf_means p s t v e h = means_so s t v (h.0 ∙ sym e) (subst IsMeant (sym e) (h.1, λ r i. i))

  pub means_leaf : (p : Primitive) (s : Standing) (t : Term) (v : V) → term v ≡ leaf p → Means s t v → (t ≡ leaf p) × IsInRange p
  means_leaf p s t v e m = (tree_term term are s t v m ∙ e, (subst IsMeant e m.1).0)

  -- values one by one
  each_means : (ss : List Standing) (ts : Terms) (vs : List V) → EachMeans Means ss ts vs
      → (ts ≡ canons_of term vs) × AreMeant (canons_of term vs)
  each_means [] none [] m = (refl, (tt, λ r i. i))
  each_means [] none (v ∷ vs) m = absurd m
  each_means [] (more t ts) vs m = absurd m
  each_means (s ∷ ss) none vs m = absurd m
  each_means (s ∷ ss) (more t ts) [] m = absurd m
  each_means (s ∷ ss) (more t ts) (v ∷ vs) m =
      let i = each_means ss ts vs m.1 in
      (ap₂ more (tree_term term are s t v m.0) i.0, more_meant (term v) (canons_of term vs) m.0.1 i.1)

  abbrev stood : List V → List Standing
  stood [] = []
  stood (v ∷ vs) = whole [] ∷ stood vs

  means_each : (vs : List V) → AreMeant (canons_of term vs) → EachMeans Means (stood vs) (canons_of term vs) vs
  means_each [] h = tt
  means_each (v ∷ vs) h =
      let i = meant_more (term v) (canons_of term vs) h in (means_so (whole []) (term v) v refl i.0, means_each vs i.1)

  -- a list or an array
  pub items_mean : (k : Container) → IsListOrArray k → (s : Standing) (t : Term) (vs : List V) (v : V)
      → term v ≡ container k (canons_of term vs) → MeansItems true Means k s t vs → Means s t v
  items_mean k q s t vs v e m =
      items_cases true Means k s vs (λ t. Means s t v)
      (λ ts ss p each.
      (let i = each_means ss ts vs each in
      let own = list_or_array k q (canons_of term vs) in
      means_so s (container k ts) v (ap (container k) i.0 ∙ sym e)
      (subst IsMeant (sym e) (container_meant k (canons_of term vs) own.0 own.1 i.1)))) t m

  pub mean_items : (k : Container) (s : Standing) (t : Term) (vs : List V) (v : V) → term v ≡ container k (canons_of term vs)
      → Means s t v → MeansItems true Means k s t vs
  mean_items k s t vs v e m =
      let i = meant_container k (canons_of term vs) (subst IsMeant e m.1) in
      subst (λ x. MeansItems true Means k s x vs) (sym (tree_term term are s t v m ∙ e))
      (refl, stood vs, λ x. absurd (clash refl x), means_each vs i.1)

  -- a described value
  pub pair_means : (s : Standing) (t : Term) (d : Descriptor) (w v : V) → term v ≡ described d (term w)
      → MeansPair any_descriptor.means true Means s t (d, w) → Means s t v
  pair_means s t d w v e m =
      pair_cases any_descriptor.means true Means s (d, w) (λ t. Means s t v)
      (λ f x z q p n.
      means_so s (described f x) v (ap₂ described q.0 (tree_term term are z x w n) ∙ sym e)
      (subst IsMeant (sym e) ((q.1, n.1.0), n.1.1))) t m

  pub means_pair : (s : Standing) (t : Term) (d : Descriptor) (w v : V) → term v ≡ described d (term w) → Means s t v
      → MeansPair any_descriptor.means true Means s t (d, w)
  means_pair s t d w v e m =
      let i = subst IsMeant e m.1 in
      subst (λ x. MeansPair any_descriptor.means true Means s x (d, w)) (sym (tree_term term are s t v m ∙ e))
      ((refl, i.0.0), whole [], λ x. absurd (clash refl x), means_so (whole []) (term w) w refl (i.0.1, i.1))

  -- a map's keys and values in turn
  in_turn_means : (ss : List Standing) (ts : Terms) (ps : List (V × V))
      → EachMeans (λ s t. IsEither (Means s t) (Means s t)) ss ts (in_turn ps) → EachMeans Means ss ts (turns ps)
  in_turn_means [] none [] m = tt
  in_turn_means [] none (p ∷ ps) m = absurd m
  in_turn_means [] (more t ts) ps m = absurd m
  in_turn_means (s ∷ ss) none ps m = absurd m
  in_turn_means (s ∷ ss) (more t ts) [] m = absurd m
  in_turn_means (s ∷ []) (more t none) (p ∷ ps) m = absurd m.1
  in_turn_means (s ∷ []) (more t (more u ts)) (p ∷ ps) m = absurd m.1
  in_turn_means (s ∷ z ∷ ss) (more t none) (p ∷ ps) m = absurd m.1
  in_turn_means (s ∷ z ∷ ss) (more t (more u ts)) (p ∷ ps) m = (m.0, (m.1.0, in_turn_means ss ts ps m.1.1))

  means_in_turn : (ps : List (V × V)) → EachMeans Means (stood (turns ps)) (canons_of term (turns ps)) (turns ps)
      → EachMeans (λ s t. IsEither (Means s t) (Means s t)) (stood (turns ps)) (canons_of term (turns ps)) (in_turn ps)
  means_in_turn [] m = tt
  means_in_turn (p ∷ ps) m = (m.0, (m.1.0, means_in_turn ps m.1.1))

  -- there are as many values as keys
  turns_even : (ps : List (V × V)) → count (canons_of term (turns ps)) % 2 ≡ 0
  turns_even [] = refl
  turns_even (p ∷ ps) = let h = turns_even ps in omega (arith, h)

  either_false : (a b : Bool) → a ≡ false → b ≡ false → (a || b) ≡ false
  either_false a b h k = rw (h, k) refl

  neither : (a b : Bool) → (a || b) ≡ false → (a ≡ false) × (b ≡ false)
  neither true b e = absurd (clash refl e)
  neither false b e = (refl, e)

  differ : (v w : V) → (Same v w → ⊥) → same_term (term v) (term w) ≡ false
  differ v w h =
      by_test (same_term (term v) (term w)) (same_term (term v) (term w) ≡ false)
      (λ e. absurd (h ((terms_decide (term v) (term w) (are v)).0 e))) (λ e. e)

  pub not_among : (k : V) (ps : List (V × V)) → IsNew Same k ps → is_among_keys (term k) (canons_of term (turns ps)) ≡ false
  not_among k [] h = refl
  not_among k (p ∷ ps) h =
      either_false (same_term (term k) (term p.0)) (is_among_keys (term k) (canons_of term (turns ps))) (differ k p.0 h.0)
      (not_among k ps h.1)

  pub among_not : (k : V) (ps : List (V × V)) → is_among_keys (term k) (canons_of term (turns ps)) ≡ false → IsNew Same k ps
  among_not k [] h = tt
  among_not k (p ∷ ps) h =
      let n = neither (same_term (term k) (term p.0)) (is_among_keys (term k) (canons_of term (turns ps))) h in
      (λ e. clash ((terms_decide (term k) (term p.0) (are k)).1 e) n.0, among_not k ps n.1)

  pub keys_differ : (ps : List (V × V)) → HaveOtherKeys Same ps → has_equal_keys (canons_of term (turns ps)) ≡ false
  keys_differ [] h = refl
  keys_differ (p ∷ ps) h =
      either_false (is_among_keys (term p.0) (canons_of term (turns ps))) (has_equal_keys (canons_of term (turns ps)))
      (not_among p.0 ps h.0) (keys_differ ps h.1)

  pub differ_keys : (ps : List (V × V)) → has_equal_keys (canons_of term (turns ps)) ≡ false → HaveOtherKeys Same ps
  differ_keys [] h = tt
  differ_keys (p ∷ ps) h =
      let n = neither (is_among_keys (term p.0) (canons_of term (turns ps))) (has_equal_keys (canons_of term (turns ps))) h in
      (among_not p.0 ps n.0, differ_keys ps n.1)

  pub turns_canons : (ps : List (V × V)) → pair_canons term term ps ≡ canons_of term (turns ps)
  turns_canons [] = refl
  turns_canons (p ∷ ps) = ap (λ ts. more (term p.0) (more (term p.1) ts)) (turns_canons ps)

  -- a map
  pub map_means : (s : Standing) (t : Term) (ps : List (V × V)) (v : V) → term v ≡ container map (pair_canons term term ps)
      → MeansMap true Means Means Same s t ps → Means s t v
  map_means s t ps v same m =
      let e = same ∙ ap (container map) (turns_canons ps) in
      items_cases true (λ s t. IsEither (Means s t) (Means s t)) map s (in_turn ps) (λ t. Means s t v)
      (λ ts ss p each.
      (let i = each_means ss ts (turns ps) (in_turn_means ss ts ps each) in
      means_so s (container map ts) v (ap (container map) i.0 ∙ sym e)
      (subst IsMeant (sym e) (container_meant map (canons_of term (turns ps)) (turns_even ps) (keys_differ ps m.1) i.1)))) t m.0

  pub means_map : (s : Standing) (t : Term) (ps : List (V × V)) (v : V) → term v ≡ container map (pair_canons term term ps)
      → Means s t v → MeansMap true Means Means Same s t ps
  means_map s t ps v same m =
      let e = same ∙ ap (container map) (turns_canons ps) in
      let i = meant_container map (canons_of term (turns ps)) (subst IsMeant e m.1) in (
        subst (λ x. MeansItems true (λ s t. IsEither (Means s t) (Means s t)) map s x (in_turn ps)) (sym (tree_term term are s t v m ∙ e))
            (refl, stood (turns ps), λ x. absurd (clash refl x), means_in_turn ps (means_each (turns ps) i.1)),
        differ_keys ps i.0,
      )
