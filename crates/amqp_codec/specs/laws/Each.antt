-- The laws of values that terms mean one by one, by the laws of their type.
use Rattle.std.proofs.Common.{◌≡◌, inl, inr, ◌≤◌, suc, true, List, [], ◌∷◌, length, map, All, refl, ap, ap₂, arith}
use Rattle.std.specs.List.{AllZip}
use Rattle.std.proofs.lemmas.List.Elements.{All-head, All-tail, All-cons, All-nil}
use Rattle.amqp_model.specs.Term.{Refusal, too_large, Term, Terms, leaf, container, described, kept, barred, none, more, count}
use Rattle.amqp_model.specs.Standing.{Standing}
use Rattle.amqp_model.specs.Measures.{nests, array_nest, all_nodes}
use Rattle.amqp_model.specs.Ranges.{EverywhereIn, IsValue}
use Rattle.amqp_model.specs.Refusals.{SomewhereIn, IsItem, IsRefused}
use Rattle.amqp_model.specs.Kept.{ExpandsTo, EachExpandsTo}
use Rattle.amqp_model.specs.Items.{BarsAny}
use Rattle.amqp_model.specs.FieldType.{Norm, normal, unchanged, by_norm}
use Rattle.amqp_model.specs.laws.Array.{map_plain}
use Rattle.amqp_codec.specs.NullsAlike.{all_nulls_alike}
use Rattle.amqp_codec.specs.TermType.{TermType, Spells, IsLeaf, KeepNoBytes}
use Rattle.amqp_codec.specs.Each.{EachMeans, EachStands, EachSpells, EachCanonical, IsAmong, canons_of, count_all, norm_items}

pub items_normal : {T : Type 0} (n : Norm T) (vs : List T) → normal (norm_items n) vs ≡ map (normal n) vs
items_normal unchanged vs = map_plain vs
items_normal (by_norm f) vs = refl

-- by induction on the values
pub each_induct : {T : Type 0} (means : Standing → Term → T → Type 0) (P : List Standing → Terms → List T → Type 0) → P [] none []
    → ((s : Standing) (t : Term) (v : T) (ss : List Standing) (ts : Terms) (vs : List T) → means s t v → P ss ts vs
    → P (s ∷ ss) (more t ts) (v ∷ vs))
    → (ss : List Standing) (ts : Terms) (vs : List T) → EachMeans means ss ts vs → P ss ts vs
each_induct means P base step [] none [] h = base
each_induct means P base step [] none (v ∷ vs) h = absurd h
each_induct means P base step [] (more t ts) vs h = absurd h
each_induct means P base step (s ∷ ss) none vs h = absurd h
each_induct means P base step (s ∷ ss) (more t ts) [] h = absurd h
each_induct means P base step (s ∷ ss) (more t ts) (v ∷ vs) h = step s t v ss ts vs h.0 (each_induct means P base step ss ts vs h.1)

-- what else is meant by no terms, and by one and others
no_others : {T : Type 0} (means : Standing → Term → T → Type 0) (P : List T → Type 0) (ws : List T) → P [] → EachMeans means [] none ws
    → P ws
no_others means P [] base h = base
no_others means P (w ∷ ws) base h = absurd h

others : {T : Type 0} (means : Standing → Term → T → Type 0) (P : List T → Type 0) (s : Standing) (t : Term) (ss : List Standing)
    (ts : Terms) (ws : List T) → ((w : T) (ws : List T) → means s t w → EachMeans means ss ts ws → P (w ∷ ws))
    → EachMeans means (s ∷ ss) (more t ts) ws → P ws
others means P s t ss ts [] step h = absurd h
others means P s t ss ts (w ∷ ws) step h = step w ws h.0 h.1

pub stand_many : (P : Standing → Term → Type 0) (ss : List Standing) (ts : Terms) → EachStands P ss ts → length ss ≡ count ts
stand_many P [] none e = refl
stand_many P [] (more t ts) e = absurd e
stand_many P (s ∷ ss) none e = absurd e
stand_many P (s ∷ ss) (more t ts) e = ap suc (stand_many P ss ts e.1)

module _ {T : Type 0} (means : Standing → Term → T → Type 0) where
  -- as many standings as terms, and as many values
  pub standings_many : (ss : List Standing) (ts : Terms) (vs : List T) → EachMeans means ss ts vs → length ss ≡ count ts
  standings_many = each_induct means (λ ss ts vs. length ss ≡ count ts) refl (λ s t v ss ts vs m i. ap suc i)

  pub values_many : (ss : List Standing) (ts : Terms) (vs : List T) → EachMeans means ss ts vs → length vs ≡ count ts
  values_many = each_induct means (λ ss ts vs. length vs ≡ count ts) refl (λ s t v ss ts vs m i. ap suc i)

-- terms that others read as are as many
pub read_none : (ts : Terms) (P : Terms → Type 0) → P none → EachExpandsTo none ts → P ts
read_none none P h r = h
read_none (more t ts) P h r = absurd r

pub read_more : (u : Term) (us ts : Terms) (P : Terms → Type 0)
    → ((t : Term) (rest : Terms) → ExpandsTo u t → EachExpandsTo us rest → P (more t rest)) → EachExpandsTo (more u us) ts → P ts
read_more u us none P h r = absurd r
read_more u us (more t rest) P h r = h t rest r.0 r.1

-- how deep an array nests that begins by a leaf, or by what is none
nest_array : (t : Term) (ts : Terms) → (IsLeaf t → ⊥) → array_nest (more t ts) ≡ suc (nests (more t ts))
nest_array (leaf p) ts h = absurd (h tt)
nest_array (container k us) ts h = refl
nest_array (described d t) ts h = refl
nest_array (kept b) ts h = absurd (h tt)
nest_array (barred r) ts h = absurd (h tt)

nest_flat : (t : Term) (ts : Terms) → IsLeaf t → array_nest (more t ts) ≡ array_nest ts
nest_flat (leaf p) ts h = refl
nest_flat (container k us) ts h = absurd h
nest_flat (described d t) ts h = absurd h
nest_flat (kept b) ts h = refl
nest_flat (barred r) ts h = refl

by_leaf : (t : Term) (Q : Type 0) → (IsLeaf t → Q) → ((IsLeaf t → ⊥) → Q) → Q
by_leaf (leaf p) Q f g = f tt
by_leaf (container k us) Q f g = g (λ h. h)
by_leaf (described d t) Q f g = g (λ h. h)
by_leaf (kept b) Q f g = f tt
by_leaf (barred r) Q f g = f tt

array_most : (ts : Terms) → array_nest ts ≤ suc (nests ts)
array_most none = omega arith
array_most (more t ts) =
    by_leaf t (array_nest (more t ts) ≤ suc (nests (more t ts))) (λ l. omega (arith, nest_flat t ts l, array_most ts))
    (λ l. omega (arith, nest_array t ts l))

-- What is known of a canonical item: the term that means it, where it stands.
pub record Item {T : Type 0} (u : TermType T) (ss : List Standing) (x : Term) : Type 0 where
  pub standing : Standing
  pub term : Term
  pub value : T
  pub is : x ≡ u.canon value
  pub meant : u.means standing term value
  pub spelled : Spells standing term
  pub among : IsAmong standing ss

module _ {T : Type 0} (u : TermType T) where
  -- sameness
  pub each_refl : (vs : List T) → AllZip u.same vs vs
  each_refl [] = tt
  each_refl (v ∷ vs) = (u.sameness.refl v, each_refl vs)

  pub each_sym : (vs ws : List T) → AllZip u.same vs ws → AllZip u.same ws vs
  each_sym [] [] s = tt
  each_sym [] (w ∷ ws) s = s
  each_sym (v ∷ vs) [] s = s
  each_sym (v ∷ vs) (w ∷ ws) s = (u.sameness.sym v w s.0, each_sym vs ws s.1)

  pub each_trans : (vs ws xs : List T) → AllZip u.same vs ws → AllZip u.same ws xs → AllZip u.same vs xs
  each_trans [] [] xs s z = z
  each_trans [] (w ∷ ws) xs s z = absurd s
  each_trans (v ∷ vs) [] xs s z = absurd s
  each_trans (v ∷ vs) (w ∷ ws) [] s z = z
  each_trans (v ∷ vs) (w ∷ ws) (x ∷ xs) s z = (u.sameness.trans v w x s.0 z.0, each_trans vs ws xs s.1 z.1)

  -- what holds of each value holds of those that are the same
  by_same : (P : List T → List T → Type 0) → P [] [] → ((v w : T) (vs ws : List T) → u.same v w → P vs ws → P (v ∷ vs) (w ∷ ws))
      → (vs ws : List T) → AllZip u.same vs ws → P vs ws
  by_same P base step [] [] s = base
  by_same P base step [] (w ∷ ws) s = absurd s
  by_same P base step (v ∷ vs) [] s = absurd s
  by_same P base step (v ∷ vs) (w ∷ ws) s = step v w vs ws s.0 (by_same P base step vs ws s.1)

  pub same_values : (vs ws : List T) → AllZip u.same vs ws → All u.is_value vs → All u.is_value ws
  same_values = by_same (λ vs ws. All u.is_value vs → All u.is_value ws) (λ i. i)
      (λ v w vs ws s h i. All-cons u.is_value w ws ((u.sameness.agrees v w s).value (All-head u.is_value v vs i))
      (h (All-tail u.is_value v vs i)))

  pub same_canons : (vs ws : List T) → AllZip u.same vs ws → canons_of u.canon vs ≡ canons_of u.canon ws
  same_canons = by_same (λ vs ws. canons_of u.canon vs ≡ canons_of u.canon ws) refl
      (λ v w vs ws s h. ap₂ more (u.sameness.agrees v w s).canon h)

  pub same_mean : (vs ws : List T) → AllZip u.same vs ws → (ss : List Standing) (ts : Terms) → EachMeans u.means ss ts vs
      → EachMeans u.means ss ts ws
  same_mean = by_same (λ vs ws. (ss : List Standing) (ts : Terms) → EachMeans u.means ss ts vs → EachMeans u.means ss ts ws)
      (λ ss ts m. m) more_mean
    where
      more_mean : (v w : T) (vs ws : List T) → u.same v w
          → ((ss : List Standing) (ts : Terms) → EachMeans u.means ss ts vs → EachMeans u.means ss ts ws)
          → (ss : List Standing) (ts : Terms) → EachMeans u.means ss ts (v ∷ vs) → EachMeans u.means ss ts (w ∷ ws)
      more_mean v w vs ws s h [] none m = absurd m
      more_mean v w vs ws s h [] (more t ts) m = absurd m
      more_mean v w vs ws s h (z ∷ zs) none m = absurd m
      more_mean v w vs ws s h (z ∷ zs) (more t ts) m = ((u.sameness.agrees v w s).means z t m.0, h zs ts m.1)

  pub one_each : (ss : List Standing) (ts : Terms) (vs : List T) → EachMeans u.means ss ts vs
      → (ws : List T) → EachMeans u.means ss ts ws → AllZip u.same vs ws
  one_each = each_induct u.means (λ ss ts vs. (ws : List T) → EachMeans u.means ss ts ws → AllZip u.same vs ws)
      (λ ws. no_others u.means (λ ws. AllZip u.same [] ws) ws tt)
      (λ s t v ss ts vs m i ws. others u.means (λ ws. AllZip u.same (v ∷ vs) ws) s t ss ts ws
      (λ w ws n k. (u.sameness.one s t v w m n, i ws k)))

  -- a type that doesn't look at standings
  pub mean_anyhow : u.ignores_standing ≡ true → (ss : List Standing) (ts : Terms) (vs : List T) → EachMeans u.means ss ts vs
      → (zs : List Standing) → length zs ≡ count ts → EachMeans u.means zs ts vs
  mean_anyhow l = each_induct u.means (λ ss ts vs. (zs : List Standing) → length zs ≡ count ts → EachMeans u.means zs ts vs) none_stand
      one_more_stands
    where
      none_stand : (zs : List Standing) → length zs ≡ 0 → EachMeans u.means zs none []
      none_stand [] e = tt
      none_stand (z ∷ zs) e = absurd (omega arith)

      one_more_stands : (s : Standing) (t : Term) (v : T) (ss : List Standing) (ts : Terms) (vs : List T) → u.means s t v
          → ((zs : List Standing) → length zs ≡ count ts → EachMeans u.means zs ts vs)
          → (zs : List Standing) → length zs ≡ suc (count ts) → EachMeans u.means zs (more t ts) (v ∷ vs)
      one_more_stands s t v ss ts vs m i [] e = absurd (omega arith)
      one_more_stands s t v ss ts vs m i (z ∷ zs) e = ((u.standing_ignored l v).means s z t m, i zs (omega (arith, e)))

  pub canons_plain : u.ignores_standing ≡ true → (vs : List T) → KeepNoBytes (canons_of u.canon vs)
  canons_plain l [] = tt
  canons_plain l (v ∷ vs) = ((u.standing_ignored l v).plain, canons_plain l vs)

  pub canons_mean_anyhow : u.ignores_standing ≡ true → (s : Standing) (vs : List T) → All u.is_value vs
      → ((r : Refusal) → BarsAny r (canons_of u.canon vs) → ⊥)
      → EachMeans u.means (map (λ v. s) vs) (canons_of u.canon vs) (map (normal u.norm) vs)
  canons_mean_anyhow l s [] i f = tt
  canons_mean_anyhow l s (v ∷ vs) i f = (
    (u.standing_ignored l v).canon_means s (All-head u.is_value v vs i) (λ r h. f r (inl h)),
    canons_mean_anyhow l s vs (All-tail u.is_value v vs i) (λ r h. f r (inr h)),
  )

  -- what is written is read again
  pub canons_valued : (vs : List T) → All u.is_value vs → EverywhereIn IsValue (canons_of u.canon vs)
  canons_valued [] i = tt
  canons_valued (v ∷ vs) i =
      ((u.rewrites v).valued (All-head u.is_value v vs i), canons_valued vs (All-tail u.is_value v vs i))

  pub canons_read : (vs : List T) → All u.is_value vs → ((r : Refusal) → BarsAny r (canons_of u.canon vs) → ⊥)
      → (ts : Terms) × EachExpandsTo (canons_of u.canon vs) ts
  canons_read [] i f = (none, tt)
  canons_read (v ∷ vs) i f =
      let x = (u.rewrites v).reads (All-head u.is_value v vs i) (λ r h. f r (inl h)) in
      let xs = canons_read vs (All-tail u.is_value v vs i) (λ r h. f r (inr h)) in
      (more x.0 xs.0, (x.1, xs.1))

  pub canons_mean : (ss : List Standing) (vs : List T) (ts : Terms) → All u.is_value vs → EachCanonical ss (canons_of u.canon vs)
      → EachExpandsTo (canons_of u.canon vs) ts → EachMeans u.means ss ts (map (normal u.norm) vs)
  canons_mean [] [] none i c r = tt
  canons_mean [] [] (more t ts) i c r = absurd r
  canons_mean [] (v ∷ vs) ts i c r = absurd c
  canons_mean (s ∷ ss) [] ts i c r = absurd c
  canons_mean (s ∷ ss) (v ∷ vs) none i c r = absurd r
  canons_mean (s ∷ ss) (v ∷ vs) (more t ts) i c r = (
    (u.rewrites v).means s t (All-head u.is_value v vs i) c.0.0 c.0.1 r.0,
    canons_mean ss vs ts (All-tail u.is_value v vs i) c.1 r.1,
  )

  pub canons_normal : (vs : List T)
      → all_nulls_alike (canons_of u.canon (map (normal u.norm) vs)) ≡ all_nulls_alike (canons_of u.canon vs)
  canons_normal [] = refl
  canons_normal (v ∷ vs) = ap₂ more (u.rewrites v).canon (canons_normal vs)

  pub normal_twice : (vs : List T) → AllZip u.same (map (normal u.norm) (map (normal u.norm) vs)) (map (normal u.norm) vs)
  normal_twice [] = tt
  normal_twice (v ∷ vs) = (u.norm_norm v, normal_twice vs)

  -- of values that are meant
  pub each_value : (ss : List Standing) (ts : Terms) (vs : List T) → EachMeans u.means ss ts vs → All u.is_value vs
  each_value = each_induct u.means (λ ss ts vs. All u.is_value vs) (All-nil u.is_value)
      (λ s t v ss ts vs m i. All-cons u.is_value v vs (u.meant s t v m).value i)

  pub each_own : (ss : List Standing) (ts : Terms) (vs : List T) → EachMeans u.means ss ts vs → AllZip u.same (map (normal u.norm) vs) vs
  each_own = each_induct u.means (λ ss ts vs. AllZip u.same (map (normal u.norm) vs) vs) tt (λ s t v ss ts vs m i. (u.own s t v m, i))

  pub each_free : (ss : List Standing) (ts : Terms) (vs : List T) → EachMeans u.means ss ts vs
      → (r : Refusal) → BarsAny r (canons_of u.canon vs) → ⊥
  each_free = each_induct u.means (λ ss ts vs. (r : Refusal) → BarsAny r (canons_of u.canon vs) → ⊥) (λ r h. h)
      (λ s t v ss ts vs m i r h. elim h [ inl x ↦ (u.meant s t v m).free r x | inr x ↦ i r x ])

  pub each_counted : (ss : List Standing) (ts : Terms) (vs : List T) → EachMeans u.means ss ts vs → count_all u.count vs ≤ all_nodes ts
  each_counted = each_induct u.means (λ ss ts vs. count_all u.count vs ≤ all_nodes ts) (omega arith)
      (λ s t v ss ts vs m i. omega (arith, i, (u.meant s t v m).counted))

  pub canons_many : (ss : List Standing) (ts : Terms) (vs : List T) → EachMeans u.means ss ts vs → count (canons_of u.canon vs) ≡ count ts
  canons_many = each_induct u.means (λ ss ts vs. count (canons_of u.canon vs) ≡ count ts) refl (λ s t v ss ts vs m i. ap suc i)

  -- they nest no deeper, in a list and in an array
  pub each_nested : (ss : List Standing) (ts : Terms) (vs : List T) → EachMeans u.means ss ts vs → (us : Terms)
      → EachExpandsTo (canons_of u.canon vs) us → (array_nest us ≤ array_nest ts) × (nests us ≤ nests ts)
  each_nested = each_induct u.means
      (λ ss ts vs. (us : Terms) → EachExpandsTo (canons_of u.canon vs) us → (array_nest us ≤ array_nest ts) × (nests us ≤ nests ts))
      (λ us. read_none us (λ us. (array_nest us ≤ 0) × (nests us ≤ 0)) (omega arith, omega arith))
      (λ s t v ss ts vs m i us. read_more (u.canon v) (canons_of u.canon vs) us
      (λ us. (array_nest us ≤ array_nest (more t ts)) × (nests us ≤ nests (more t ts))) (λ x xs r k.
      let j = i xs k in
      let n = (u.meant s t v m).nested x r in (
        by_leaf t (array_nest (more x xs) ≤ array_nest (more t ts))
            (λ l. omega (arith, nest_flat t ts l, nest_flat x xs ((u.meant s t v m).leaf_alike x r l), j.0))
            (λ l. omega (arith, nest_array t ts l, array_most (more x xs), n, j.1)),
        omega (arith, n, j.1),
      )))

  pub each_writable : (ss : List Standing) (ts : Terms) (vs : List T) → EachMeans u.means ss ts vs → EachSpells ss ts
      → (r : Refusal) → SomewhereIn (IsRefused r) (canons_of u.canon vs) → r ≡ too_large
  each_writable = each_induct u.means
      (λ ss ts vs. EachSpells ss ts → (r : Refusal) → SomewhereIn (IsRefused r) (canons_of u.canon vs) → r ≡ too_large)
      (λ e r h. absurd h)
      (λ s t v ss ts vs m i e r h. elim h [ inl x ↦ (u.meant s t v m).writable e.0 r x | inr x ↦ i e.1 r x ])

  -- each canonical item is that of a value that is meant
  pub item_of : (ss : List Standing) (ts : Terms) (vs : List T) → EachMeans u.means ss ts vs → EachSpells ss ts → (x : Term)
      → IsItem x (canons_of u.canon vs) → Item u ss x
  item_of = each_induct u.means (λ ss ts vs. EachSpells ss ts → (x : Term) → IsItem x (canons_of u.canon vs) → Item u ss x)
      (λ e x i. absurd i) first_or_later
    where
      first_or_later : (s : Standing) (t : Term) (v : T) (ss : List Standing) (ts : Terms) (vs : List T) → u.means s t v
          → (EachSpells ss ts → (x : Term) → IsItem x (canons_of u.canon vs) → Item u ss x)
          → EachSpells (s ∷ ss) (more t ts) → (x : Term) → IsItem x (canons_of u.canon (v ∷ vs)) → Item u (s ∷ ss) x
      first_or_later s t v ss ts vs m i e x (inl is) =
          record { standing = s; term = t; value = v; is = is; meant = m; spelled = e.0; among = inl refl }
      first_or_later s t v ss ts vs m i e x (inr h) =
          let k = i e.1 x h in
          record {
            standing = k.standing;
            term = k.term;
            value = k.value;
            is = k.is;
            meant = k.meant;
            spelled = k.spelled;
            among = inr k.among;
          }
