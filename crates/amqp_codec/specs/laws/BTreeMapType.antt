-- Lemmas of maps whose pairs are kept in the order of their keys.
use Rattle.std.proofs.Common.{◌≡◌, inl, inr, ℕ, ◌+◌, ◌≤◌, suc, true, ◌&&◌, List, ◌∷◌, ◌++◌, length, refl, sym, ap, ap₂, ◌∙◌, subst, arith}
use Rattle.std.proofs.Common.{Ordering}
use Rattle.std.proofs.lemmas.List.{length-append}
use Rattle.std.specs.BTreeMap.{BTreeMap}
use Rattle.std.specs.List.Sorted.{IsStrictlySortedBy}
use Rattle.std.specs.Map.{keys_of}
use Rattle.amqp_model.specs.Term.{Refusal, map, Term, Terms, container, more, count}
use Rattle.amqp_model.specs.Standing.{Standing, whole}
use Rattle.amqp_model.specs.Text.{Alone, compact_head, text, texts}
use Rattle.amqp_model.specs.Measures.{nest, nests, nodes}
use Rattle.amqp_model.specs.Ranges.{EverywhereIn, IsNoArray}
use Rattle.amqp_model.specs.Refusals.{SomewhereIn, IsRefused}
use Rattle.amqp_model.specs.Kept.{ExpandsTo, EachExpandsTo}
use Rattle.amqp_model.specs.Items.{BarsAny}
use Rattle.amqp_model.specs.FieldType.{Norm, normal, unchanged, by_norm}
use Rattle.amqp_codec.specs.NullsAlike.{nulls_alike}
use Rattle.amqp_codec.specs.TermType.{TermType, View, view_of, Agrees, Rewrites, IgnoresStanding, Meant, IsNoShorter, IsLeaf}
use Rattle.amqp_codec.specs.laws.PrimitiveTerm.{container_not_null}
use Rattle.amqp_codec.specs.laws.OnlySize.{size_alone}
use Rattle.amqp_codec.specs.laws.Each.{read_more}
use Rattle.amqp_codec.specs.laws.ItemsType.{container_cases}
use Rattle.amqp_codec.specs.Keys.{IsOwnKey}
use Rattle.amqp_codec.specs.Pairs.{pair_canons, count_pairs, OfPairs, SamePairs, norm_values}
use Rattle.amqp_codec.specs.laws.Pair.{same_values}
use Rattle.amqp_codec.specs.KeyOrder.{in_order, IsOrderOf}
use Rattle.amqp_codec.specs.laws.KeyOrder.{ordered, still_in_order, before_order, order_alike, once_in_order, sorted_others, others_sorted}
use Rattle.amqp_codec.specs.laws.KeyOrder.{same_in_order, sorted_alike, same_as_ordered}
use Rattle.amqp_codec.specs.laws.MapType.{map_flawless}
use Rattle.amqp_codec.specs.laws.MapReading.{map_of}
use Rattle.amqp_codec.specs.BTreeMapMeaning.{norm_entries, MeansInOrder, AreInOrder}

pub entries_normal : {K V : Type 0} (n : Norm V) (m : BTreeMap K V) → (normal (norm_entries n) m).entries ≡ normal (norm_values n) m.entries
entries_normal unchanged m = refl
entries_normal (by_norm f) m = refl

normal_in_order : {K V : Type 0} (cmp : K → K → Ordering) (n : Norm V) (ps : List (K × V))
    → in_order cmp (normal (norm_values n) ps) ≡ normal (norm_values n) (in_order cmp ps)
normal_in_order cmp unchanged ps = refl
normal_in_order cmp (by_norm f) ps = order_alike cmp f ps

module _ {K V : Type 0} (key : TermType K) (value : TermType V) (cmp : K → K → Ordering) where
  abbrev lists : TermType (List (K × V))
  lists = map_of key value

  abbrev canons : List (K × V) → Terms
  canons = pair_canons key.canon value.canon

  abbrev canon : List (K × V) → Term
  canon ps = container map (canons ps)

  abbrev Same : List (K × V) → List (K × V) → Type 0
  Same = SamePairs key.same value.same

  abbrev normals : List (K × V) → List (K × V)
  normals = normal (norm_values value.norm)

  abbrev view : BTreeMap K V → View
  view = view_of (λ m. AreInOrder key value cmp m.entries) (MeansInOrder key value cmp) (λ m. canon m.entries)

  abbrev normal_map : BTreeMap K V → BTreeMap K V
  normal_map = normal (norm_entries value.norm)

  -- what is said of the normal pairs is said of the normal map's
  normally : (P : List (K × V) → Type 0) (m : BTreeMap K V) → P (normals m.entries) → P (normal_map m).entries
  normally P m = subst P (sym (entries_normal value.norm m))

  -- the pairs as a list's values
  listed : (ps : List (K × V)) → AreInOrder key value cmp ps → lists.is_value ps
  listed ps i = (i.0, sorted_others i.2 ps i.1)

  normals_sorted : (ps : List (K × V)) → IsStrictlySortedBy cmp (keys_of ps) → in_order cmp (normals ps) ≡ normals ps
  normals_sorted ps i = normal_in_order cmp value.norm ps ∙ ap normals (once_in_order cmp ps i)

  pub map_agrees : (m n : BTreeMap K V) → Same m.entries n.entries → Agrees (view m) (view n)
  map_agrees m n z = record {
    value = λ i. (same_values key value m.entries n.entries z i.0, sorted_alike i.2 value.same m.entries n.entries z i.1, i.2);
    means = λ s t h.
        (let x = same_as_ordered h.order value.same h.pairs n.entries (subst (λ ps. Same ps n.entries) h.sorted z) in
        record { pairs = x.0; meant = (lists.sameness.agrees h.pairs x.0 x.1).means s t h.meant; sorted = sym x.2; order = h.order });
    canon = (lists.sameness.agrees m.entries n.entries z).canon;
  }

  pub map_one : (s : Standing) (t : Term) (m n : BTreeMap K V) → MeansInOrder key value cmp s t m → MeansInOrder key value cmp s t n
      → Same m.entries n.entries
  map_one s t m n h k =
      subst (λ ps. Same ps n.entries) (sym h.sorted)
      (subst (λ ps. Same (in_order cmp h.pairs) ps) (sym k.sorted)
      (same_in_order h.order value.same h.pairs k.pairs (lists.sameness.one s t h.pairs k.pairs h.meant k.meant)))

  -- the normal map is meant by what means its pairs in their order
  as_they_stand : (m : BTreeMap K V) (s : Standing) (t : Term) → AreInOrder key value cmp m.entries → lists.means s t (normals m.entries)
      → MeansInOrder key value cmp s t (normal_map m)
  as_they_stand m s t i h = record {
    pairs = normals m.entries;
    meant = h;
    sorted = entries_normal value.norm m ∙ sym (normals_sorted m.entries i.1);
    order = i.2;
  }

  pub map_rewrites : (m : BTreeMap K V) → Rewrites (view m) (view (normal_map m))
  map_rewrites m =
      let r = lists.rewrites m.entries in
      record {
        valued = λ i. r.valued (listed m.entries i);
        reads = λ i. r.reads (listed m.entries i);
        means = λ s t i f c x. as_they_stand m s t i (r.means s t (listed m.entries i) f c x);
        canon = ap (λ ps. nulls_alike (canon ps)) (entries_normal value.norm m) ∙ r.canon;
      }

  pub map_ignores : key.ignores_standing && value.ignores_standing ≡ true → (m : BTreeMap K V)
      → IgnoresStanding (view m) (view (normal_map m))
  map_ignores l m =
      let r = lists.standing_ignored l m.entries in
      record {
        plain = r.plain;
        means = λ s z t h.
            record { pairs = h.pairs; meant = (lists.standing_ignored l h.pairs).means s z t h.meant; sorted = h.sorted; order = h.order };
        canon_means = λ s i f. as_they_stand m s (canon m.entries) i (r.canon_means s (listed m.entries i) f);
      }

  pub map_norm_norm : (m : BTreeMap K V) → Same (normal_map (normal_map m)).entries (normal_map m).entries
  map_norm_norm m = normally (λ ps. Same ps (normal_map m).entries) (normal_map m)
      (normally (λ ps. Same (normals ps) ps) m (lists.norm_norm m.entries))

  pub map_own : (s : Standing) (t : Term) (m : BTreeMap K V) → MeansInOrder key value cmp s t m → Same (normal_map m).entries m.entries
  map_own s t m h = normally (λ ps. Same ps m.entries) m
      (subst (λ ps. Same (normals ps) ps) (sym h.sorted)
      (subst (λ ps. Same ps (in_order cmp h.pairs)) (normal_in_order cmp value.norm h.pairs)
      (same_in_order h.order value.same (normals h.pairs) h.pairs (lists.own s t h.pairs h.meant))))

  -- the same is so of pairs in whatever order
  still_of : (ps : List (K × V)) → OfPairs (IsOwnKey key) value.is_value ps → OfPairs (IsOwnKey key) value.is_value (in_order cmp ps)
  still_of = still_in_order cmp (OfPairs (IsOwnKey key) value.is_value) (λ p ps qs f h. (h.0, h.1, f h.2))
      (λ p q ps h. (h.2.0, h.2.1, (h.0, h.1, h.2.2)))

  barred_before : (r : Refusal) (ps : List (K × V)) → BarsAny r (canons (in_order cmp ps)) → BarsAny r (canons ps)
  barred_before r = before_order cmp (λ ps. BarsAny r (canons ps))
      (λ p ps qs f h. elim h [ inl a ↦ inl a | inr a ↦ inr (elim a [ inl b ↦ inl b | inr b ↦ inr (f b) ]) ])
      (λ p q ps h. elim h [
        | inl a ↦ inr (inr (inl a))
        | inr a ↦ elim a [
          | inl b ↦ inr (inr (inr (inl b)))
          | inr b ↦ elim b [ inl c ↦ inl c | inr c ↦ elim c [ inl d ↦ inr (inl d) | inr d ↦ inr (inr (inr (inr d))) ] ]
        ]
      ])

  refused_before : (r : Refusal) (ps : List (K × V)) → SomewhereIn (IsRefused r) (canons (in_order cmp ps))
      → SomewhereIn (IsRefused r) (canons ps)
  refused_before r = before_order cmp (λ ps. SomewhereIn (IsRefused r) (canons ps))
      (λ p ps qs f h. elim h [ inl a ↦ inl a | inr a ↦ inr (elim a [ inl b ↦ inl b | inr b ↦ inr (f b) ]) ])
      (λ p q ps h. elim h [
        | inl a ↦ inr (inr (inl a))
        | inr a ↦ elim a [
          | inl b ↦ inr (inr (inr (inl b)))
          | inr b ↦ elim b [ inl c ↦ inl c | inr c ↦ elim c [ inl d ↦ inr (inl d) | inr d ↦ inr (inr (inr (inr d))) ] ]
        ]
      ])

  no_array_before : (ps : List (K × V)) → EverywhereIn IsNoArray (canons (in_order cmp ps)) → EverywhereIn IsNoArray (canons ps)
  no_array_before = before_order cmp (λ ps. EverywhereIn IsNoArray (canons ps)) (λ p ps qs f h. (h.0, (h.1.0, f h.1.1)))
      (λ p q ps h. (h.1.1.0, (h.1.1.1.0, (h.0, (h.1.0, h.1.1.1.1)))))

  -- and they count as many, and take as many bytes
  same_count : (ps : List (K × V)) → count_pairs key.count value.count ps ≡ count_pairs key.count value.count (in_order cmp ps)
  same_count = ordered cmp (λ ps qs. count_pairs key.count value.count ps ≡ count_pairs key.count value.count qs) (λ ps. refl)
      (λ ps qs rs h k. h ∙ k) (λ p ps qs h. omega (arith, h)) (λ p q ps. omega arith)

  as_many : (ps : List (K × V)) → count (canons ps) ≡ count (canons (in_order cmp ps))
  as_many = ordered cmp (λ ps qs. count (canons ps) ≡ count (canons qs)) (λ ps. refl) (λ ps qs rs h k. h ∙ k)
      (λ p ps qs h. ap (λ n. suc (suc n)) h) (λ p q ps. refl)

  one_longer : (p : K × V) (ps : List (K × V)) → length (texts (canons (p ∷ ps)) Alone)
      ≡ length (text (key.canon p.0) Alone) + (length (text (value.canon p.1) Alone) + length (texts (canons ps) Alone))
  unfolding texts
  one_longer p ps = length-append (text (key.canon p.0) Alone) (text (value.canon p.1) Alone ++ texts (canons ps) Alone)
      ∙ ap (λ n. length (text (key.canon p.0) Alone) + n) (length-append (text (value.canon p.1) Alone) (texts (canons ps) Alone))

  as_long : (ps : List (K × V)) → length (texts (canons ps) Alone) ≡ length (texts (canons (in_order cmp ps)) Alone)
  as_long = ordered cmp (λ ps qs. length (texts (canons ps) Alone) ≡ length (texts (canons qs) Alone)) (λ ps. refl)
      (λ ps qs rs h k. h ∙ k) (λ p ps qs h. omega (arith, h, one_longer p ps, one_longer p qs))
      (λ p q ps. omega (arith, one_longer p (q ∷ ps), one_longer q ps, one_longer q (p ∷ ps), one_longer p ps))

  framed : (m n : ℕ) (b c : List ℕ) → m ≡ n → length b ≡ length c
      → length (compact_head map m (length b) ++ b) ≡ length (compact_head map n (length c) ++ c)
  framed m n b c e d = length-append (compact_head map m (length b)) b
      ∙ ap₂ (λ x y. x + y) (ap₂ (λ x y. length (compact_head map x y)) e d) d ∙ sym (length-append (compact_head map n (length c)) c)

  text_as_long : (ps : List (K × V)) → length (text (canon ps) Alone) ≡ length (text (canon (in_order cmp ps)) Alone)
  unfolding text
  text_as_long ps = framed (count (canons ps)) (count (canons (in_order cmp ps))) (texts (canons ps) Alone)
      (texts (canons (in_order cmp ps)) Alone) (as_many ps) (as_long ps)

  -- what they expand to nests as deep
  record Expansion (ps : List (K × V)) (us : Terms) : Type 0 where
    terms : Terms
    expands : EachExpandsTo (canons ps) terms
    deep : nests terms ≡ nests us

  two_read : (p : K × V) (ps : List (K × V)) (us : Terms) (P : Terms → Type 0)
      → ((t r : Term) (ts : Terms) → ExpandsTo (key.canon p.0) t → ExpandsTo (value.canon p.1) r → EachExpandsTo (canons ps) ts
      → P (more t (more r ts)))
      → EachExpandsTo (canons (p ∷ ps)) us → P us
  two_read p ps us P f = read_more (key.canon p.0) (more (value.canon p.1) (canons ps)) us P
      (λ t ts a. read_more (value.canon p.1) (canons ps) ts (λ ts. P (more t ts)) (λ r rest b k. f t r rest a b k))

  expands_before : (ps : List (K × V)) (us : Terms) → EachExpandsTo (canons (in_order cmp ps)) us → Expansion ps us
  expands_before = ordered cmp (λ ps qs. (us : Terms) → EachExpandsTo (canons qs) us → Expansion ps us)
      (λ ps us h. record { terms = us; expands = h; deep = refl })
      (λ ps qs rs f g us h.
      (let x = g us h in
      let y = f x.terms x.expands in record { terms = y.terms; expands = y.expands; deep = y.deep ∙ x.deep }))
      (λ p ps qs f us. two_read p qs us (Expansion (p ∷ ps)) (λ t r ts a b h.
      (let x = f ts h in
      let deep = x.deep in
      record { terms = more t (more r x.terms); expands = (a, (b, x.expands)); deep = omega (arith, deep) })))
      (λ p q ps us. two_read q (p ∷ ps) us (Expansion (p ∷ q ∷ ps)) (λ t r ts a b. two_read p ps ts
      (λ ts. Expansion (p ∷ q ∷ ps) (more t (more r ts))) (λ v w vs c d h.
      record { terms = more v (more w (more t (more r vs))); expands = (c, (d, (a, (b, h)))); deep = omega arith })))

  meant_in_order : (s : Standing) (t : Term) (ps : List (K × V)) → IsOrderOf cmp key.same → lists.means s t ps
      → Meant s t (AreInOrder key value cmp (in_order cmp ps)) (canon (in_order cmp ps))
      (suc (count_pairs key.count value.count (in_order cmp ps)))
  meant_in_order s t ps o h =
      let x = lists.meant s t ps h in
      let after = in_order cmp ps in
      record {
        value = (still_of ps x.value.0, others_sorted o ps x.value.1, o);
        free = λ r b. x.free r (barred_before r ps b);
        writable = λ spells r i. elim i [
          | inl f ↦ size_alone (map_flawless (canons after)) r f
          | inr j ↦ x.writable spells r (inr (refused_before r ps j))
        ];
        bare_data = λ i k. k;
        null_alike = x.null_alike;
        core_null = λ e. absurd (container_not_null map (canons after) e);
        formless = x.formless;
        nested = λ u. container_cases map (canons after) (λ u. nest u ≤ nest t) (λ us r.
            (let y = expands_before ps us r in
            subst (λ n. suc n ≤ nest t) y.deep (x.nested (container map y.terms) (refl, y.expands)))) u;
        leaf_alike = λ u. container_cases map (canons after) (λ u. IsLeaf t → IsLeaf u) (λ us r.
            (let y = expands_before ps us r in x.leaf_alike (container map y.terms) (refl, y.expands))) u;
        counted = subst (λ n. suc n ≤ nodes t) (same_count ps) x.counted;
      }

  pub map_meant : (s : Standing) (t : Term) (m : BTreeMap K V) → MeansInOrder key value cmp s t m
      → Meant s t (AreInOrder key value cmp m.entries) (canon m.entries) (suc (count_pairs key.count value.count m.entries))
  map_meant s t m h =
      subst (λ ps. Meant s t (AreInOrder key value cmp ps) (canon ps) (suc (count_pairs key.count value.count ps))) (sym h.sorted)
      (meant_in_order s t h.pairs h.order h.meant)

  pub map_least : key.is_least && value.is_least ≡ true → (b : List ℕ) (t : Term) (m : BTreeMap K V)
      → MeansInOrder key value cmp (whole b) t m → IsNoShorter b t (canon m.entries)
  map_least l b t m h =
      subst (λ ps. IsNoShorter b t (canon ps)) (sym h.sorted)
      (λ i n e. subst (λ x. x ≤ length b) (text_as_long h.pairs)
      (lists.least l b t h.pairs h.meant i (n.0, no_array_before h.pairs n.1) e))
