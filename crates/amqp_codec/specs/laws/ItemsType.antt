-- Lemmas of values that are the items of a list or an array.
use Rattle.std.proofs.Common.{◌≡◌, inl, inr, ℕ, ◌+◌, ◌≤◌, suc, Bool, true, false, List, [], ◌∷◌, ◌++◌, length, map, All, refl, sym, ap, ◌∙◌}
use Rattle.std.proofs.Common.{subst, arith}
use Rattle.std.specs.List.{AllZip}
use Rattle.std.proofs.lemmas.List.{length-append}
use Rattle.amqp_model.specs.Term.{null, Refusal, too_large, Container, list, map as map_kind, array, Descriptor, Term, Terms, leaf}
use Rattle.amqp_model.specs.Term.{container, described, kept, barred, none, more, count}
use Rattle.amqp_model.specs.Constructors.{format}
use Rattle.amqp_model.specs.Spelling.{ContainerData, HasWidthZero, IsDataOf}
use Rattle.amqp_model.specs.Standing.{Standing, whole, StandWhole, Parts}
use Rattle.amqp_model.specs.Text.{Alone, text, texts, form}
use Rattle.amqp_model.specs.Measures.{nest}
use Rattle.amqp_model.specs.Ranges.{Everywhere, EverywhereIn, IsValue, IsNoArray, IsBytes}
use Rattle.amqp_model.specs.Refusals.{Somewhere, IsItem, IsRefused, HasForm, core}
use Rattle.amqp_model.specs.Kept.{ExpandsTo, EachExpandsTo}
use Rattle.amqp_model.specs.Items.{IsFree}
use Rattle.amqp_model.specs.laws.Item.{clash}
use Rattle.amqp_model.specs.FieldType.{normal}
use Rattle.amqp_model.proofs.Placed.{parts_one}
use Rattle.amqp_model.proofs.Mixed.{one_form_shared}
use Rattle.amqp_model.proofs.Least.{bytes_left, bytes_right, container_least}
use Rattle.amqp_model.proofs.Shortest.{format_least}
use Rattle.amqp_model.proofs.Lengths.{joined_length, constructor_length}
use Rattle.amqp_codec.specs.TermType.{TermType, View, view_of, Agrees, Rewrites, IgnoresStanding, Meant, IsNoShorter, Spells}
use Rattle.amqp_codec.specs.TermType.{StandsCanonically, IsUnrefused, IsKept, IsPart}
use Rattle.amqp_codec.specs.laws.PrimitiveTerm.{container_not_null}
use Rattle.amqp_codec.specs.laws.OnlySize.{IsFlawless, size_alone, list_flawless}
use Rattle.amqp_codec.specs.Each.{EachMeans, EachSpells, IsAmong, canons_of, count_all, norm_items, IsListOrArray, AreParts, Share}
use Rattle.amqp_codec.specs.Each.{MeansItems}
use Rattle.amqp_codec.specs.laws.Each.{items_normal, standings_many, stand_many, Item, same_values, same_canons, same_mean, one_each}
use Rattle.amqp_codec.specs.laws.Each.{mean_anyhow, canons_plain, canons_mean_anyhow, canons_valued, canons_read, canons_mean, canons_normal}
use Rattle.amqp_codec.specs.laws.Each.{normal_twice, each_value, each_own, each_free, each_counted, canons_many, each_nested, each_writable}
use Rattle.amqp_codec.specs.laws.Each.{item_of}
use Rattle.amqp_codec.specs.laws.Placing.{placed, canonical_parts}
use Rattle.amqp_codec.specs.laws.Form.{data_form, data_has_form, core_has_form}

-- what holds of each list or array whose items mean the values, holds of all that is meant
pub items_cases : {T : Type 0} (ignores : Bool) (means : Standing → Term → T → Type 0) (k : Container) (s : Standing) (vs : List T)
    (P : Term → Type 0)
    → ((ts : Terms) (ss : List Standing) → (ignores ≡ false → Parts s (container k ts) ss) → EachMeans means ss ts vs → P (container k ts))
    → (t : Term) → MeansItems ignores means k s t vs → P t
items_cases ignores means k s vs P f (container j ts) (e, ss, p, m) =
    subst (λ j. P (container j ts)) (sym e) (f ts ss (λ n. subst (λ j. Parts s (container j ts) ss) e (p n)) m)
items_cases ignores means k s vs P f (leaf p) m = absurd m
items_cases ignores means k s vs P f (described d t) m = absurd m
items_cases ignores means k s vs P f (kept b) m = absurd m
items_cases ignores means k s vs P f (barred r) m = absurd m

-- what a list or an array reads as
pub container_cases : (k : Container) (us : Terms) (P : Term → Type 0) → ((ts : Terms) → EachExpandsTo us ts → P (container k ts))
    → (t : Term) → ExpandsTo (container k us) t → P t
container_cases k us P f (container j ts) (e, r) = subst (λ j. P (container j ts)) e (f ts r)
container_cases k us P f (leaf p) r = absurd r
container_cases k us P f (described d t) r = absurd r
container_cases k us P f (kept b) r = absurd r
container_cases k us P f (barred s) r = absurd r

abbrev pub by_test : (b : Bool) (Q : Type 0) → (b ≡ true → Q) → (b ≡ false → Q) → Q
by_test true Q f g = f refl
by_test false Q f g = g refl

module _ {T : Type 0} (u : TermType T) (k : Container) (q : IsListOrArray k) where
  abbrev means : Standing → Term → List T → Type 0
  means = MeansItems u.ignores_standing u.means k

  abbrev canon : List T → Term
  canon vs = container k (canons_of u.canon vs)

  abbrev view : List T → View
  view = view_of (All u.is_value) means canon

  abbrev by_items : (s : Standing) (vs : List T) (P : Term → Type 0)
      → ((ts : Terms) (ss : List Standing) → (u.ignores_standing ≡ false → Parts s (container k ts) ss) → EachMeans u.means ss ts vs
      → P (container k ts))
      → (t : Term) → means s t vs → P t
  by_items = items_cases u.ignores_standing u.means k

  -- what holds of the items normalised one by one, holds of them normalised
  normally : (P : List T → Type 0) (vs : List T) → P (map (normal u.norm) vs) → P (normal (norm_items u.norm) vs)
  normally P vs = subst P (sym (items_normal u.norm vs))

  -- the values are meant as any other standings of the parts say
  pub mean_as : (s : Standing) (ts : Terms) (ss zs : List Standing) (vs : List T) → length zs ≡ count ts
      → (u.ignores_standing ≡ false → Parts s (container k ts) ss) → (u.ignores_standing ≡ false → Parts s (container k ts) zs)
      → EachMeans u.means ss ts vs → EachMeans u.means zs ts vs
  mean_as s ts ss zs vs n p p' m =
      by_test u.ignores_standing (EachMeans u.means zs ts vs) (λ e. mean_anyhow u e ss ts vs m zs n)
      (λ e. subst (λ xs. EachMeans u.means xs ts vs) (parts_one s (container k ts) ss zs (p e) (p' e)) m)

  -- where the items of what is spelled stand
  record Placed (s : Standing) (ts : Terms) (vs : List T) : Type 0 where
    standings : List Standing
    parts : Parts s (container k ts) standings
    spelled : EachSpells standings ts
    share : Share k standings
    meant : EachMeans u.means standings ts vs

  placed_so : (s : Standing) (ts : Terms) (ss : List Standing) (vs : List T) → Spells s (container k ts)
      → (u.ignores_standing ≡ false → Parts s (container k ts) ss) → EachMeans u.means ss ts vs → Placed s ts vs
  placed_so s ts ss vs h p m =
      let x = placed k s ts h in
      record {
        standings = x.0;
        parts = x.1;
        spelled = x.2.0;
        share = x.2.1;
        meant = mean_as s ts ss x.0 vs (stand_many Spells x.0 ts x.2.0) p (λ _. x.1) m;
      }

  pub items_agree : (vs ws : List T) → AllZip u.same vs ws → Agrees (view vs) (view ws)
  items_agree vs ws z = record {
    value = same_values u vs ws z;
    means = λ s t. by_items s vs (λ t. means s t ws) (λ ts ss p m. (refl, ss, p, same_mean u vs ws z ss ts m)) t;
    canon = ap (container k) (same_canons u vs ws z);
  }

  pub items_one : (s : Standing) (t : Term) (vs ws : List T) → means s t vs → means s t ws → AllZip u.same vs ws
  items_one s t vs ws =
      by_items s vs (λ t. means s t ws → AllZip u.same vs ws) (λ ts ss p m h.
      (let n = standings_many u.means ss ts vs m in
      one_each u ss ts vs m ws (mean_as s ts h.1 ss ws n h.2 p h.3))) t

  valued_at : (j : Container) → IsListOrArray j → (us : Terms) → EverywhereIn IsValue us → Everywhere IsValue (container j us)
  valued_at list q us h = (tt, h)
  valued_at map_kind q us h = absurd q
  valued_at array q us h = (tt, h)

  rewritten_means : (s : Standing) (vs : List T) → All u.is_value vs → IsUnrefused (canon vs) → StandsCanonically s (canon vs)
      → (ts : Terms) → EachExpandsTo (canons_of u.canon vs) ts → means s (container k ts) (map (normal u.norm) vs)
  rewritten_means s vs i f c ts r =
      let x = canonical_parts k s (canons_of u.canon vs) ts (valued_at k q (canons_of u.canon vs) (canons_valued u vs i)) f c r in
      (refl, x.0, λ _. x.1, canons_mean u x.0 vs ts i x.2 r)

  items_read : (vs : List T) → All u.is_value vs → IsFree (canon vs) → (t : Term) × ExpandsTo (canon vs) t
  items_read vs i f = let r = canons_read u vs i f in (container k r.0, (refl, r.1))

  pub items_rewrites : (vs : List T) → Rewrites (view vs) (view (normal (norm_items u.norm) vs))
  items_rewrites vs = normally (λ ws. Rewrites (view vs) (view ws)) vs (record {
    valued = λ i. valued_at k q (canons_of u.canon vs) (canons_valued u vs i);
    reads = items_read vs;
    means = λ s t i f c. container_cases k (canons_of u.canon vs) (λ t. means s t (map (normal u.norm) vs)) (rewritten_means s vs i f c) t;
    canon = ap (container k) (canons_normal u vs);
  })

  pub items_ignore : u.ignores_standing ≡ true → (vs : List T) → IgnoresStanding (view vs) (view (normal (norm_items u.norm) vs))
  items_ignore l vs = normally (λ ws. IgnoresStanding (view vs) (view ws)) vs (record {
    plain = canons_plain u l vs;
    means = λ s z t. by_items s vs (λ t. means z t vs) (λ ts ss p m. (refl, ss, λ e. absurd (clash l e), m)) t;
    canon_means = λ s i f. (refl, map (λ v. s) vs, λ e. absurd (clash l e), canons_mean_anyhow u l s vs i f);
  })

  pub items_norm_norm : (vs : List T)
      → AllZip u.same (normal (norm_items u.norm) (normal (norm_items u.norm) vs)) (normal (norm_items u.norm) vs)
  items_norm_norm vs =
      normally (λ ws. AllZip u.same (normal (norm_items u.norm) ws) ws) vs
      (normally (λ ws. AllZip u.same ws (map (normal u.norm) vs)) (map (normal u.norm) vs) (normal_twice u vs))

  pub items_own : (s : Standing) (t : Term) (vs : List T) → means s t vs → AllZip u.same (normal (norm_items u.norm) vs) vs
  items_own s t vs =
      by_items s vs (λ t. AllZip u.same (normal (norm_items u.norm) vs) vs)
      (λ ts ss p m. normally (λ ws. AllZip u.same ws vs) vs (each_own u ss ts vs m)) t

  -- the data of a canonical item's term under the constructor that the items share
  record Shared (ds : List Descriptor) (c : ℕ) (x : Term) : Type 0 where
    standing : Standing
    term : Term
    value : T
    is : x ≡ u.canon value
    meant : u.means standing term value
    part : IsPart standing
    bytes : List ℕ
    spelled : IsDataOf term ds c bytes

  shared_data : (ds : List Descriptor) (c : ℕ) (ss : List Standing) (s : Standing) (t : Term) → AreParts ds c ss → IsAmong s ss → Spells s t
      → IsPart s × (b : List ℕ) × IsDataOf t ds c b
  shared_data ds c [] s t a i h = absurd i
  shared_data ds c (z ∷ zs) s t a (inl e) h =
      let is = e ∙ a.0.1 in (subst IsPart (sym is) tt, a.0.0, (subst (λ s. Spells s t) is h).1)
  shared_data ds c (z ∷ zs) s t a (inr i) h = shared_data ds c zs s t a.1 i h

  shared_item : (ds : List Descriptor) (c : ℕ) (ss : List Standing) (x : Term) → AreParts ds c ss → Item u ss x → Shared ds c x
  shared_item ds c ss x a i =
      let d = shared_data ds c ss i.standing i.term a i.among i.spelled in
      record {
        standing = i.standing;
        term = i.term;
        value = i.value;
        is = i.is;
        meant = i.meant;
        part = d.0;
        bytes = d.1;
        spelled = d.2;
      }

  module _ (ds : List Descriptor) (c : ℕ) (wide : HasWidthZero (format c) → ⊥) where
    some_core : (x : Term) → Shared ds c x → core x ≡ leaf null → ⊥
    some_core x i e =
        data_has_form i.term ds c i.bytes wide i.spelled
        ((u.meant i.standing i.term i.value i.meant).core_null (sym (ap core i.is) ∙ e))

    bare_core : (x : Term) → Shared ds c x → IsKept (core x) → ⊥
    bare_core x i e = (u.meant i.standing i.term i.value i.meant).bare_data i.part (subst (λ y. IsKept (core y)) i.is e)

    item_form : (x : Term) → Shared ds c x → HasForm x
    item_form x i =
        core_has_form x (subst IsFree (sym i.is) (u.meant i.standing i.term i.value i.meant).free) (some_core x i) (bare_core x i)

    one_form : (x y : Term) → Shared ds c x → Shared ds c y → form x ≡ form y
    one_form x y i j =
        ap form i.is
        ∙ (u.formed i.standing j.standing i.term j.term i.value j.value i.meant j.meant
        (data_form i.term j.term ds c i.bytes j.bytes i.spelled j.spelled) ∙ sym (ap form j.is))

  flawless_at : (j : Container) → IsListOrArray j → (ts : Terms) (ss : List Standing) (vs : List T) → Share j ss → EachSpells ss ts
      → EachMeans u.means ss ts vs → IsFlawless (container j (canons_of u.canon vs))
  flawless_at list q ts ss vs h e m = list_flawless (canons_of u.canon vs)
  flawless_at map_kind q ts ss vs h e m = absurd q
  flawless_at array q ts ss vs (ds, c, a, wide) e m =
      let item = λ (x : Term) (i : IsItem x (canons_of u.canon vs)). shared_item ds c ss x a (item_of u ss ts vs m e x i) in
      record {
        unbarred = λ r e. cc;
        unmixed = λ (x, y, i, j, n).
            one_form_shared x y (item_form ds c wide x (item x i)) (one_form ds c wide x y (item x i) (item y j)) n;
        no_null = λ (x, i, n). some_core ds c wide x (item x i) n;
        no_kept = λ (x, b, i, n). bare_core ds c wide x (item x i) (subst IsKept (sym n) tt);
        ascii = λ h. h;
      }

  items_writable : (s : Standing) (ts : Terms) (ss : List Standing) (vs : List T)
      → (u.ignores_standing ≡ false → Parts s (container k ts) ss) → EachMeans u.means ss ts vs → Spells s (container k ts)
      → (r : Refusal) → Somewhere (IsRefused r) (canon vs) → r ≡ too_large
  items_writable s ts ss vs p m h r i =
      let x = placed_so s ts ss vs h p m in
      elim i [
        | inl f ↦ size_alone (flawless_at k q ts x.standings vs x.share x.spelled x.meant) r f
        | inr j ↦ each_writable u x.standings ts vs x.meant x.spelled r j
      ]

  nested_at : (j : Container) → IsListOrArray j → (ts : Terms) (ss : List Standing) (vs : List T) (us : Terms) → EachMeans u.means ss ts vs
      → EachExpandsTo (canons_of u.canon vs) us → nest (container j us) ≤ nest (container j ts)
  nested_at list q ts ss vs us m r = omega (arith, (each_nested u ss ts vs m us r).1)
  nested_at map_kind q ts ss vs us m r = absurd q
  nested_at array q ts ss vs us m r = (each_nested u ss ts vs m us r).0

  pub items_meant : (s : Standing) (t : Term) (vs : List T) → means s t vs
      → Meant s t (All u.is_value vs) (canon vs) (suc (count_all u.count vs))
  items_meant s t vs = by_items s vs (λ t. Meant s t (All u.is_value vs) (canon vs) (suc (count_all u.count vs))) (λ ts ss p m. record {
    value = each_value u ss ts vs m;
    free = each_free u ss ts vs m;
    writable = items_writable s ts ss vs p m;
    bare_data = λ i h. h;
    null_alike = refl;
    core_null = λ e. absurd (container_not_null k (canons_of u.canon vs) e);
    formless = λ e. e;
    nested = λ x. container_cases k (canons_of u.canon vs) (λ x. nest x ≤ nest (container k ts)) (λ us. nested_at k q ts ss vs us m) x;
    leaf_alike = λ x r h. absurd h;
    counted = omega (arith, each_counted u ss ts vs m);
  }) t

  -- the items' canonical text is no longer than they are
  texts_least : u.is_least ≡ true → (ts : Terms) (zs : List Standing) (b : List ℕ) (vs : List T) → IsBytes b
      → EverywhereIn IsNoArray (canons_of u.canon vs) → StandWhole ts zs b → EachMeans u.means zs ts vs
      → length (texts (canons_of u.canon vs) Alone) ≤ length b
  unfolding texts
  texts_least l none zs b [] i n h m = omega arith
  texts_least l none [] b (v ∷ vs) i n h m = absurd m
  texts_least l none (z ∷ zs) b (v ∷ vs) i n h m = absurd m
  texts_least l (more t ts) zs b [] i n h m = omega arith
  texts_least l (more t ts) zs b (v ∷ vs) i n (first, second, others, e, s, rest, is) m =
      let bytes : IsBytes (first ++ second) = subst IsBytes e i in
      let m' : EachMeans u.means (whole first ∷ others) (more t ts) (v ∷ vs) =
      subst (λ z. EachMeans u.means z (more t ts) (v ∷ vs)) is m in
      omega (
        arith,
        joined_length b first second e,
        length-append (text (u.canon v) Alone) (texts (canons_of u.canon vs) Alone),
        u.least l first t v m'.0 (bytes_left first second bytes) n.0 s,
        texts_least l ts others second vs (bytes_right first second bytes) n.1 rest m'.1,
      )

  list_short : u.is_least ≡ true → (ts : Terms) (zs : List Standing) (f : ℕ) (x : List ℕ) (vs : List T) → IsBytes x
      → EverywhereIn IsNoArray (canons_of u.canon vs) → ContainerData (format f) list (count ts) (StandWhole ts zs) x
      → EachMeans u.means zs ts vs → length (text (container list (canons_of u.canon vs)) Alone) ≤ 1 + length x
  unfolding text
  list_short l ts zs f x [] i n h m = omega arith
  list_short l ts zs f x (v ∷ vs) i n h m =
      let same = canons_many u zs ts (v ∷ vs) m in
      container_least (format f) list (count ts) (count (canons_of u.canon (v ∷ vs))) (StandWhole ts zs)
      (texts (canons_of u.canon (v ∷ vs)) Alone) x (format_least f) (omega (arith, same)) (inl (omega (arith, same))) h i
      (λ content bytes s. texts_least l ts zs content (v ∷ vs) bytes n s m)

  least_at : (j : Container) → IsListOrArray j → u.is_least ≡ true → (b : List ℕ) (ts : Terms) (zs : List Standing) (vs : List T)
      → IsBytes b → Everywhere IsNoArray (container j (canons_of u.canon vs)) → Parts (whole b) (container j ts) zs
      → EachMeans u.means zs ts vs
      → length (text (container j (canons_of u.canon vs)) Alone) ≤ length b
  least_at list q l b ts zs vs i n (ds, c, few, (g, x, e, k, d)) m =
      let all : IsBytes (g ++ x) = subst IsBytes e i in
      omega (arith, joined_length b g x e, constructor_length ds c g k, list_short l ts zs c x vs (bytes_right g x all) n.1 d m)
  least_at map_kind q l b ts zs vs i n p m = absurd q
  least_at array q l b ts zs vs i n p m = absurd n.0

  pub items_least : u.is_least ≡ true → (b : List ℕ) (t : Term) (vs : List T) → means (whole b) t vs → IsNoShorter b t (canon vs)
  items_least l b t vs = by_items (whole b) vs (λ t. IsNoShorter b t (canon vs)) (λ ts ss p m i n h.
      (let x = placed_so (whole b) ts ss vs h p m in least_at k q l b ts x.standings vs i n x.parts x.meant)) t
