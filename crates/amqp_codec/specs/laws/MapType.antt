-- Lemmas of maps as lists of pairs, no two of which have the same key.
use Rattle.std.proofs.Common.{◌≡◌, inl, inr, ℕ, ◌+◌, ◌≤◌, suc, Bool, true, false, ◌&&◌, List, [], ◌∷◌, ◌++◌, length, refl, sym, ap, ◌∙◌}
use Rattle.std.proofs.Common.{subst, arith, map as map_of}
use Rattle.std.specs.Cmp.{first_so, second_so}
use Rattle.std.proofs.lemmas.List.{length-append}
use Rattle.amqp_model.specs.Term.{Refusal, too_large, map, list, Term, Terms, container, none, more, count}
use Rattle.amqp_model.specs.Constructors.{format}
use Rattle.amqp_model.specs.Spelling.{ContainerData}
use Rattle.amqp_model.specs.Standing.{Standing, whole, StandWhole, Parts}
use Rattle.amqp_model.specs.Text.{Alone, text, texts}
use Rattle.amqp_model.specs.Measures.{nest}
use Rattle.amqp_model.specs.Ranges.{EverywhereIn, IsNoArray, IsBytes}
use Rattle.amqp_model.specs.Refusals.{Somewhere, IsRefused}
use Rattle.amqp_model.specs.Kept.{ExpandsTo, EachExpandsTo}
use Rattle.amqp_model.specs.Items.{IsFree}
use Rattle.amqp_model.specs.laws.Item.{clash}
use Rattle.amqp_model.specs.FieldType.{normal}
use Rattle.amqp_model.proofs.Placed.{parts_one}
use Rattle.amqp_model.proofs.Least.{bytes_left, bytes_right, container_least}
use Rattle.amqp_model.proofs.Shortest.{format_least}
use Rattle.amqp_model.proofs.Lengths.{joined_length, constructor_length}
use Rattle.amqp_codec.specs.TermType.{TermType, View, view_of, Agrees, Rewrites, IgnoresStanding, Meant, IsNoShorter, Spells}
use Rattle.amqp_codec.specs.TermType.{StandsCanonically, IsUnrefused}
use Rattle.amqp_codec.specs.laws.PrimitiveTerm.{container_not_null}
use Rattle.amqp_codec.specs.laws.OnlySize.{IsFlawless, size_alone}
use Rattle.amqp_codec.specs.EitherMeaning.{IsEither}
use Rattle.amqp_codec.specs.Each.{EachSpells}
use Rattle.amqp_codec.specs.laws.Each.{stand_many}
use Rattle.amqp_codec.specs.laws.ItemsType.{items_cases, container_cases, by_test}
use Rattle.amqp_codec.specs.Keys.{IsOwnKey}
use Rattle.amqp_codec.specs.laws.Placing.{placed, canonical_parts}
use Rattle.amqp_codec.specs.Pairs.{in_turn, PairsMean, pair_canons, count_pairs, HaveOtherKeys, OfPairs, SamePairs, with_values}
use Rattle.amqp_codec.specs.Pairs.{norm_values, MeansMap}
use Rattle.amqp_codec.specs.laws.Pair.{values_normal, same_values, same_canons, same_keys, same_mean, one_pairs, pairs_mean_anyhow}
use Rattle.amqp_codec.specs.laws.Pair.{pairs_plain, pairs_even, pairs_valued, pairs_read, pairs_canon_normal, normal_twice, keys_normal}
use Rattle.amqp_codec.specs.laws.Pair.{pairs_value, pairs_own, pairs_free, pairs_counted, pairs_many, standings_many, pairs_nested}
use Rattle.amqp_codec.specs.laws.Pair.{pairs_writable, pairs_mean, pairs_canon_mean}

map_not_list : map ≡ list → ⊥
map_not_list e = cc

pub map_flawless : (ts : Terms) → IsFlawless (container map ts)
map_flawless ts = record { unbarred = λ r e. cc; unmixed = λ h. h; no_null = λ h. h; no_kept = λ h. h; ascii = λ h. h }

module _ {K V : Type 0} (key : TermType K) (value : TermType V) where
  abbrev ignores : Bool
  ignores = key.ignores_standing && value.ignores_standing

  abbrev means : Standing → Term → List (K × V) → Type 0
  means = MeansMap ignores key.means value.means key.same

  abbrev Values : List (K × V) → Type 0
  Values ps = OfPairs (IsOwnKey key) value.is_value ps × HaveOtherKeys key.same ps

  abbrev canons : List (K × V) → Terms
  canons = pair_canons key.canon value.canon

  abbrev canon : List (K × V) → Term
  canon ps = container map (canons ps)

  abbrev Same : List (K × V) → List (K × V) → Type 0
  Same = SamePairs key.same value.same

  abbrev normals : List (K × V) → List (K × V)
  normals = with_values (normal value.norm)

  abbrev view : List (K × V) → View
  view = view_of Values means canon

  -- what holds of each map whose terms mean the pairs, holds of all that is meant
  abbrev by_pairs : (s : Standing) (ps : List (K × V)) (P : Term → Type 0)
      → ((ts : Terms) (ss : List Standing) → (ignores ≡ false → Parts s (container map ts) ss) → PairsMean key.means value.means ss ts ps
      → P (container map ts))
      → (t : Term) → means s t ps → P t
  by_pairs s ps P f t m = items_cases ignores (λ s t. IsEither (key.means s t) (value.means s t)) map s (in_turn ps) P f t m.0

  -- what holds of the pairs with normal values, holds of them normalised
  normally : (P : List (K × V) → Type 0) (ps : List (K × V)) → P (normals ps) → P (normal (norm_values value.norm) ps)
  normally P ps = subst P (sym (values_normal value.norm ps))

  -- the pairs are meant as any other standings of the parts say
  pub mean_as : (s : Standing) (ts : Terms) (ss zs : List Standing) (ps : List (K × V)) → length zs ≡ count ts
      → (ignores ≡ false → Parts s (container map ts) ss) → (ignores ≡ false → Parts s (container map ts) zs)
      → PairsMean key.means value.means ss ts ps → PairsMean key.means value.means zs ts ps
  mean_as s ts ss zs ps n p p' m =
      by_test ignores (PairsMean key.means value.means zs ts ps)
      (λ e. pairs_mean_anyhow key value (first_so key.ignores_standing value.ignores_standing e)
      (second_so key.ignores_standing value.ignores_standing e) ss ts ps m zs n)
      (λ e. subst (λ xs. PairsMean key.means value.means xs ts ps) (parts_one s (container map ts) ss zs (p e) (p' e)) m)

  -- where the keys and values of what is spelled stand
  record Placed (s : Standing) (ts : Terms) (ps : List (K × V)) : Type 0 where
    standings : List Standing
    parts : Parts s (container map ts) standings
    spelled : EachSpells standings ts
    meant : PairsMean key.means value.means standings ts ps

  placed_so : (s : Standing) (ts : Terms) (ss : List Standing) (ps : List (K × V)) → Spells s (container map ts)
      → (ignores ≡ false → Parts s (container map ts) ss) → PairsMean key.means value.means ss ts ps → Placed s ts ps
  placed_so s ts ss ps h p m =
      let x = placed map s ts h in
      record {
        standings = x.0;
        parts = x.1;
        spelled = x.2.0;
        meant = mean_as s ts ss x.0 ps (stand_many Spells x.0 ts x.2.0) p (λ _. x.1) m;
      }

  pub map_agrees : (ps qs : List (K × V)) → Same ps qs → Agrees (view ps) (view qs)
  map_agrees ps qs z = record {
    value = λ i. (same_values key value ps qs z i.0, same_keys key value ps qs z i.1);
    means = λ s t m. by_pairs s ps (λ t. means s t qs)
        (λ ts ss p n. ((refl, ss, p, same_mean key value ss ts ps n qs z), same_keys key value ps qs z m.1)) t m;
    canon = ap (container map) (same_canons key value ps qs z);
  }

  pub map_one : (s : Standing) (t : Term) (ps qs : List (K × V)) → means s t ps → means s t qs → Same ps qs
  map_one s t ps qs =
      by_pairs s ps (λ t. means s t qs → Same ps qs) (λ ts ss p m h.
      (let n = standings_many key value ss ts ps m in
      one_pairs key value ss ts ps m qs (mean_as s ts h.0.1 ss qs n h.0.2 p h.0.3))) t

  rewritten_means : (s : Standing) (ps : List (K × V)) → Values ps → IsUnrefused (canon ps) → StandsCanonically s (canon ps)
      → (ts : Terms) → EachExpandsTo (canons ps) ts → means s (container map ts) (normals ps)
  rewritten_means s ps i f c ts r =
      let x = canonical_parts map s (canons ps) ts (pairs_even key.canon value.canon ps, pairs_valued key value ps i.0) f c r in
      ((refl, x.0, λ _. x.1, pairs_mean key value x.0 ps ts i.0 x.2 r), keys_normal key value ps i.1)

  map_read : (ps : List (K × V)) → Values ps → IsFree (canon ps) → (t : Term) × ExpandsTo (canon ps) t
  map_read ps i f = let r = pairs_read key value ps i.0 f in (container map r.0, (refl, r.1))

  pub map_rewrites : (ps : List (K × V)) → Rewrites (view ps) (view (normal (norm_values value.norm) ps))
  map_rewrites ps = normally (λ qs. Rewrites (view ps) (view qs)) ps (record {
    valued = λ i. (pairs_even key.canon value.canon ps, pairs_valued key value ps i.0);
    reads = map_read ps;
    means = λ s t i f c. container_cases map (canons ps) (λ t. means s t (normals ps)) (rewritten_means s ps i f c) t;
    canon = ap (container map) (pairs_canon_normal key value ps);
  })

  ignored : key.ignores_standing ≡ true → value.ignores_standing ≡ true → ignores ≡ true → (ps : List (K × V))
      → IgnoresStanding (view ps) (view (normals ps))
  ignored k v l ps = record {
    plain = pairs_plain key value k v ps;
    means = λ s z t m. by_pairs s ps (λ t. means z t ps) (λ ts ss p n. ((refl, ss, λ e. absurd (clash l e), n), m.1)) t m;
    canon_means = λ s i f. (
      (refl, map_of (λ x. s) (in_turn ps), λ e. absurd (clash l e), pairs_canon_mean key value k v s ps i.0 f),
      keys_normal key value ps i.1,
    );
  }

  pub map_ignores : ignores ≡ true → (ps : List (K × V)) → IgnoresStanding (view ps) (view (normal (norm_values value.norm) ps))
  map_ignores l ps = normally (λ qs. IgnoresStanding (view ps) (view qs)) ps
      (ignored (first_so key.ignores_standing value.ignores_standing l) (second_so key.ignores_standing value.ignores_standing l) l ps)

  pub map_norm_norm : (ps : List (K × V))
      → Same (normal (norm_values value.norm) (normal (norm_values value.norm) ps)) (normal (norm_values value.norm) ps)
  map_norm_norm ps =
      normally (λ qs. Same (normal (norm_values value.norm) qs) qs) ps
      (normally (λ qs. Same qs (normals ps)) (normals ps) (normal_twice key value ps))

  pub map_own : (s : Standing) (t : Term) (ps : List (K × V)) → means s t ps → Same (normal (norm_values value.norm) ps) ps
  map_own s t ps =
      by_pairs s ps (λ t. Same (normal (norm_values value.norm) ps) ps)
      (λ ts ss p m. normally (λ qs. Same qs ps) ps (pairs_own key value ss ts ps m)) t

  map_writable : (s : Standing) (ts : Terms) (ss : List Standing) (ps : List (K × V)) → (ignores ≡ false → Parts s (container map ts) ss)
      → PairsMean key.means value.means ss ts ps → Spells s (container map ts)
      → (r : Refusal) → Somewhere (IsRefused r) (canon ps) → r ≡ too_large
  map_writable s ts ss ps p m h r i =
      let x = placed_so s ts ss ps h p m in
      elim i [
        | inl f ↦ size_alone (map_flawless (canons ps)) r f
        | inr j ↦ pairs_writable key value x.standings ts ps x.meant x.spelled r j
      ]

  pub map_meant : (s : Standing) (t : Term) (ps : List (K × V)) → means s t ps
      → Meant s t (Values ps) (canon ps) (suc (count_pairs key.count value.count ps))
  map_meant s t ps n =
      by_pairs s ps (λ t. Meant s t (Values ps) (canon ps) (suc (count_pairs key.count value.count ps))) (λ ts ss p m. record {
        value = (pairs_value key value ss ts ps m, n.1);
        free = pairs_free key value ss ts ps m;
        writable = map_writable s ts ss ps p m;
        bare_data = λ i h. h;
        null_alike = refl;
        core_null = λ e. absurd (container_not_null map (canons ps) e);
        formless = λ e. e;
        nested = λ x. container_cases map (canons ps) (λ x. nest x ≤ nest (container map ts))
            (λ us r. omega (arith, pairs_nested key value ss ts ps m us r)) x;
        leaf_alike = λ x r h. absurd h;
        counted = omega (arith, pairs_counted key value ss ts ps m);
      }) t n

  -- the pairs' canonical text is no longer than they are
  pairs_least : key.is_least ≡ true → value.is_least ≡ true → (ps : List (K × V)) (ts : Terms) (zs : List Standing) (b : List ℕ)
      → IsBytes b → EverywhereIn IsNoArray (canons ps) → StandWhole ts zs b → PairsMean key.means value.means zs ts ps
      → length (texts (canons ps) Alone) ≤ length b
  unfolding texts
  pairs_least l w [] ts zs b i n h m = omega arith
  pairs_least l w (p ∷ ps) none [] b i n h m = absurd m
  pairs_least l w (p ∷ ps) none (z ∷ zs) b i n h m = absurd m
  pairs_least l w (p ∷ ps) (more t none) zs b i n (f, g, os, e, s, (gs, none_), is) m =
      absurd (subst (λ z. PairsMean key.means value.means z (more t none) (p ∷ ps)) (is ∙ ap (λ zs. whole f ∷ zs) none_) m).1
  pairs_least l w (p ∷ ps) (more t (more r ts)) zs b i n (f, g, os, e, s, (h, x, others, e', s', rest, is'), is) m =
      let bytes : IsBytes (f ++ g) = subst IsBytes e i in
      let right : IsBytes (h ++ x) = subst IsBytes e' (bytes_right f g bytes) in
      let m' : PairsMean key.means value.means (whole f ∷ whole h ∷ others) (more t (more r ts)) (p ∷ ps) =
      subst (λ z. PairsMean key.means value.means (whole f ∷ z) (more t (more r ts)) (p ∷ ps)) is'
      (subst (λ z. PairsMean key.means value.means z (more t (more r ts)) (p ∷ ps)) is m) in
      omega (
        arith,
        joined_length b f g e,
        joined_length g h x e',
        length-append (text (key.canon p.0) Alone) (text (value.canon p.1) Alone ++ texts (canons ps) Alone),
        length-append (text (value.canon p.1) Alone) (texts (canons ps) Alone),
        key.least l f t p.0 m'.0 (bytes_left f g bytes) n.0 s,
        value.least w h r p.1 m'.1.0 (bytes_left h x right) n.1.0 s',
        pairs_least l w ps ts others x (bytes_right h x right) n.1.1 rest m'.1.1,
      )

  map_short : key.is_least ≡ true → value.is_least ≡ true → (ts : Terms) (zs : List Standing) (f : ℕ) (x : List ℕ) (ps : List (K × V))
      → IsBytes x → EverywhereIn IsNoArray (canons ps) → ContainerData (format f) map (count ts) (StandWhole ts zs) x
      → PairsMean key.means value.means zs ts ps → length (text (canon ps) Alone) ≤ 1 + length x
  unfolding text
  map_short l w ts zs f x ps i n h m =
      let same = pairs_many key value zs ts ps m in
      container_least (format f) map (count ts) (count (canons ps)) (StandWhole ts zs) (texts (canons ps) Alone) x (format_least f)
      (omega (arith, same)) (inr map_not_list) h i (λ content bytes s. pairs_least l w ps ts zs content bytes n s m)

  least_at : key.is_least ≡ true → value.is_least ≡ true → (b : List ℕ) (ts : Terms) (zs : List Standing) (ps : List (K × V)) → IsBytes b
      → EverywhereIn IsNoArray (canons ps) → Parts (whole b) (container map ts) zs → PairsMean key.means value.means zs ts ps
      → length (text (canon ps) Alone) ≤ length b
  least_at l w b ts zs ps i n (ds, c, few, (g, x, e, k, d)) m =
      let all : IsBytes (g ++ x) = subst IsBytes e i in
      omega (arith, joined_length b g x e, constructor_length ds c g k, map_short l w ts zs c x ps (bytes_right g x all) n d m)

  pub map_least : (key.is_least && value.is_least) ≡ true → (b : List ℕ) (t : Term) (ps : List (K × V)) → means (whole b) t ps
      → IsNoShorter b t (canon ps)
  map_least l b t ps = by_pairs (whole b) ps (λ t. IsNoShorter b t (canon ps)) (λ ts ss p m i n h.
      (let x = placed_so (whole b) ts ss ps h p m in
      least_at (first_so key.is_least value.is_least l) (second_so key.is_least value.is_least l) b ts x.standings ps i n.1 x.parts
      x.meant)) t
