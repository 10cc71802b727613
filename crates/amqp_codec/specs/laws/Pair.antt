-- The laws of the pairs of a map, by the laws of their types.
use Rattle.std.proofs.Common.{◌≡◌, inl, inr, ◌≤◌, ◌%◌, suc, true, List, [], ◌∷◌, length, map, refl, ap, ap₂, arith}
use Rattle.amqp_model.specs.Term.{Refusal, too_large, Term, Terms, none, more, count}
use Rattle.amqp_model.specs.Standing.{Standing}
use Rattle.amqp_model.specs.Measures.{nests, all_nodes}
use Rattle.amqp_model.specs.Ranges.{EverywhereIn, IsValue}
use Rattle.amqp_model.specs.Refusals.{SomewhereIn, IsRefused}
use Rattle.amqp_model.specs.Kept.{EachExpandsTo}
use Rattle.amqp_model.specs.Items.{BarsAny}
use Rattle.amqp_model.specs.FieldType.{Norm, normal, unchanged, by_norm}
use Rattle.amqp_codec.specs.NullsAlike.{all_nulls_alike}
use Rattle.amqp_codec.specs.TermType.{TermType, KeepNoBytes}
use Rattle.amqp_codec.specs.Each.{EachSpells, EachCanonical}
use Rattle.amqp_codec.specs.laws.Each.{read_none, read_more}
use Rattle.amqp_codec.specs.Keys.{IsOwnKey}
use Rattle.amqp_codec.specs.Pairs.{in_turn, PairsMean, pair_canons, count_pairs, IsNew, HaveOtherKeys, OfPairs, SamePairs, with_values}
use Rattle.amqp_codec.specs.Pairs.{norm_values}

pub values_normal : {K V : Type 0} (n : Norm V) (ps : List (K × V)) → normal (norm_values n) ps ≡ with_values (normal n) ps
values_normal {K} {V} unchanged ps = same_pairs ps
  where
    same_pairs : (ps : List (K × V)) → ps ≡ with_values (λ v. v) ps
    same_pairs [] = refl
    same_pairs (p ∷ ps) = ap (λ qs. p ∷ qs) (same_pairs ps)
values_normal (by_norm f) ps = refl

-- each pair is a key and a value
pub pairs_even : {K V : Type 0} (key : K → Term) (value : V → Term) (ps : List (K × V)) → count (pair_canons key value ps) % 2 ≡ 0
pairs_even key value [] = refl
pairs_even key value (p ∷ ps) = omega (arith, pairs_even key value ps)

-- by induction on the pairs
pub pairs_induct : {K V : Type 0} (keys : Standing → Term → K → Type 0) (values : Standing → Term → V → Type 0)
    (P : List Standing → Terms → List (K × V) → Type 0) → P [] none []
    → ((s z : Standing) (t r : Term) (p : K × V) (ss : List Standing) (ts : Terms) (ps : List (K × V)) → keys s t p.0 → values z r p.1
    → P ss ts ps → P (s ∷ z ∷ ss) (more t (more r ts)) (p ∷ ps))
    → (ss : List Standing) (ts : Terms) (ps : List (K × V)) → PairsMean keys values ss ts ps → P ss ts ps
pairs_induct keys values P base step [] none [] h = base
pairs_induct keys values P base step [] none (p ∷ ps) h = absurd h
pairs_induct keys values P base step [] (more t ts) ps h = absurd h
pairs_induct keys values P base step (s ∷ ss) none ps h = absurd h
pairs_induct keys values P base step (s ∷ ss) (more t ts) [] h = absurd h
pairs_induct keys values P base step (s ∷ []) (more t none) (p ∷ ps) h = absurd h.1
pairs_induct keys values P base step (s ∷ []) (more t (more r ts)) (p ∷ ps) h = absurd h.1
pairs_induct keys values P base step (s ∷ z ∷ ss) (more t none) (p ∷ ps) h = absurd h.1
pairs_induct keys values P base step (s ∷ z ∷ ss) (more t (more r ts)) (p ∷ ps) h =
    step s z t r p ss ts ps h.0 h.1.0 (pairs_induct keys values P base step ss ts ps h.1.1)

-- what else the same terms mean
no_others : {K V : Type 0} (keys : Standing → Term → K → Type 0) (values : Standing → Term → V → Type 0) (P : List (K × V) → Type 0)
    (qs : List (K × V)) → P [] → PairsMean keys values [] none qs → P qs
no_others keys values P [] base h = base
no_others keys values P (q ∷ qs) base h = absurd h

others : {K V : Type 0} (keys : Standing → Term → K → Type 0) (values : Standing → Term → V → Type 0) (P : List (K × V) → Type 0)
    (s z : Standing) (t r : Term) (ss : List Standing) (ts : Terms) (qs : List (K × V))
    → ((q : K × V) (qs : List (K × V)) → keys s t q.0 → values z r q.1 → PairsMean keys values ss ts qs → P (q ∷ qs))
    → PairsMean keys values (s ∷ z ∷ ss) (more t (more r ts)) qs → P qs
others keys values P s z t r ss ts [] step h = absurd h
others keys values P s z t r ss ts (q ∷ qs) step h = step q qs h.0 h.1.0 h.1.1

module _ {K V : Type 0} (key : TermType K) (value : TermType V) where
  abbrev Mean : List Standing → Terms → List (K × V) → Type 0
  Mean = PairsMean key.means value.means

  abbrev Same : List (K × V) → List (K × V) → Type 0
  Same = SamePairs key.same value.same

  abbrev canons : List (K × V) → Terms
  canons = pair_canons key.canon value.canon

  abbrev Values : List (K × V) → Type 0
  Values = OfPairs (IsOwnKey key) value.is_value

  abbrev normals : List (K × V) → List (K × V)
  normals = with_values (normal value.norm)

  abbrev by_induct : (P : List Standing → Terms → List (K × V) → Type 0) → P [] none []
      → ((s z : Standing) (t r : Term) (p : K × V) (ss : List Standing) (ts : Terms) (ps : List (K × V)) → key.means s t p.0
      → value.means z r p.1 → P ss ts ps → P (s ∷ z ∷ ss) (more t (more r ts)) (p ∷ ps))
      → (ss : List Standing) (ts : Terms) (ps : List (K × V)) → Mean ss ts ps → P ss ts ps
  by_induct = pairs_induct key.means value.means

  -- sameness
  pub pairs_refl : (ps : List (K × V)) → Same ps ps
  pairs_refl [] = tt
  pairs_refl (p ∷ ps) = ((key.sameness.refl p.0, value.sameness.refl p.1), pairs_refl ps)

  pub pairs_sym : (ps qs : List (K × V)) → Same ps qs → Same qs ps
  pairs_sym [] [] s = tt
  pairs_sym [] (q ∷ qs) s = s
  pairs_sym (p ∷ ps) [] s = s
  pairs_sym (p ∷ ps) (q ∷ qs) s = ((key.sameness.sym p.0 q.0 s.0.0, value.sameness.sym p.1 q.1 s.0.1), pairs_sym ps qs s.1)

  pub pairs_trans : (ps qs rs : List (K × V)) → Same ps qs → Same qs rs → Same ps rs
  pairs_trans [] [] rs s z = z
  pairs_trans [] (q ∷ qs) rs s z = absurd s
  pairs_trans (p ∷ ps) [] rs s z = absurd s
  pairs_trans (p ∷ ps) (q ∷ qs) [] s z = z
  pairs_trans (p ∷ ps) (q ∷ qs) (r ∷ rs) s z = (
    (key.sameness.trans p.0 q.0 r.0 s.0.0 z.0.0, value.sameness.trans p.1 q.1 r.1 s.0.1 z.0.1),
    pairs_trans ps qs rs s.1 z.1,
  )

  -- what holds of each pair holds of those that are the same
  by_same : (P : List (K × V) → List (K × V) → Type 0) → P [] []
      → ((p q : K × V) (ps qs : List (K × V)) → key.same p.0 q.0 → value.same p.1 q.1 → Same ps qs → P ps qs → P (p ∷ ps) (q ∷ qs))
      → (ps qs : List (K × V)) → Same ps qs → P ps qs
  by_same P base step [] [] s = base
  by_same P base step [] (q ∷ qs) s = absurd s
  by_same P base step (p ∷ ps) [] s = absurd s
  by_same P base step (p ∷ ps) (q ∷ qs) s = step p q ps qs s.0.0 s.0.1 s.1 (by_same P base step ps qs s.1)

  pub same_values : (ps qs : List (K × V)) → Same ps qs → Values ps → Values qs
  same_values = by_same (λ ps qs. Values ps → Values qs) (λ i. i)
      (λ p q ps qs a b s h i. (
        ((key.sameness.agrees p.0 q.0 a).value i.0.0, λ l e. i.0.1 l (key.sameness.trans p.0 q.0 l a e)),
        (value.sameness.agrees p.1 q.1 b).value i.1,
        h i.2,
      ))

  pub same_canons : (ps qs : List (K × V)) → Same ps qs → canons ps ≡ canons qs
  same_canons = by_same (λ ps qs. canons ps ≡ canons qs) refl
      (λ p q ps qs a b s h. ap₂ more (key.sameness.agrees p.0 q.0 a).canon (ap₂ more (value.sameness.agrees p.1 q.1 b).canon h))

  same_new : (k l : K) → key.same k l → (ps qs : List (K × V)) → Same ps qs → IsNew key.same k ps → IsNew key.same l qs
  same_new k l e = by_same (λ ps qs. IsNew key.same k ps → IsNew key.same l qs) (λ i. tt)
      (λ p q ps qs a b s h i. (
        λ d. i.0 (key.sameness.trans k l p.0 e (key.sameness.trans l q.0 p.0 d (key.sameness.sym p.0 q.0 a))),
        h i.1,
      ))

  pub same_keys : (ps qs : List (K × V)) → Same ps qs → HaveOtherKeys key.same ps → HaveOtherKeys key.same qs
  same_keys = by_same (λ ps qs. HaveOtherKeys key.same ps → HaveOtherKeys key.same qs) (λ i. i)
      (λ p q ps qs a b s h i. (same_new p.0 q.0 a ps qs s i.0, h i.1))

  pub same_mean : (ss : List Standing) (ts : Terms) (ps : List (K × V)) → Mean ss ts ps → (qs : List (K × V)) → Same ps qs → Mean ss ts qs
  same_mean = by_induct (λ ss ts ps. (qs : List (K × V)) → Same ps qs → Mean ss ts qs) none_same more_same
    where
      none_same : (qs : List (K × V)) → Same [] qs → Mean [] none qs
      none_same [] s = tt
      none_same (q ∷ qs) s = absurd s

      more_same : (s z : Standing) (t r : Term) (p : K × V) (ss : List Standing) (ts : Terms) (ps : List (K × V)) → key.means s t p.0
          → value.means z r p.1 → ((qs : List (K × V)) → Same ps qs → Mean ss ts qs)
          → (qs : List (K × V)) → Same (p ∷ ps) qs → Mean (s ∷ z ∷ ss) (more t (more r ts)) qs
      more_same s z t r p ss ts ps m n h [] e = absurd e
      more_same s z t r p ss ts ps m n h (q ∷ qs) e = (
        (key.sameness.agrees p.0 q.0 e.0.0).means s t m,
        ((value.sameness.agrees p.1 q.1 e.0.1).means z r n, h qs e.1),
      )

  pub one_pairs : (ss : List Standing) (ts : Terms) (ps : List (K × V)) → Mean ss ts ps → (qs : List (K × V)) → Mean ss ts qs → Same ps qs
  one_pairs = by_induct (λ ss ts ps. (qs : List (K × V)) → Mean ss ts qs → Same ps qs)
      (λ qs. no_others key.means value.means (Same []) qs tt)
      (λ s z t r p ss ts ps m n i qs. others key.means value.means (Same (p ∷ ps)) s z t r ss ts qs
      (λ q qs a b k. ((key.sameness.one s t p.0 q.0 m a, value.sameness.one z r p.1 q.1 n b), i qs k)))

  -- types that don't look at standings
  pub pairs_mean_anyhow : key.ignores_standing ≡ true → value.ignores_standing ≡ true → (ss : List Standing) (ts : Terms)
      (ps : List (K × V)) → Mean ss ts ps → (zs : List Standing) → length zs ≡ count ts → Mean zs ts ps
  pairs_mean_anyhow l w = by_induct (λ ss ts ps. (zs : List Standing) → length zs ≡ count ts → Mean zs ts ps) none_stand two_more
    where
      none_stand : (zs : List Standing) → length zs ≡ 0 → Mean zs none []
      none_stand [] e = tt
      none_stand (z ∷ zs) e = absurd (omega arith)

      two_more : (s z : Standing) (t r : Term) (p : K × V) (ss : List Standing) (ts : Terms) (ps : List (K × V)) → key.means s t p.0
          → value.means z r p.1 → ((zs : List Standing) → length zs ≡ count ts → Mean zs ts ps)
          → (zs : List Standing) → length zs ≡ suc (suc (count ts)) → Mean zs (more t (more r ts)) (p ∷ ps)
      two_more s z t r p ss ts ps m n i [] e = absurd (omega arith)
      two_more s z t r p ss ts ps m n i (x ∷ []) e = absurd (omega arith)
      two_more s z t r p ss ts ps m n i (x ∷ y ∷ zs) e = (
        (key.standing_ignored l p.0).means s x t m,
        ((value.standing_ignored w p.1).means z y r n, i zs (omega (arith, e))),
      )

  pub pairs_plain : key.ignores_standing ≡ true → value.ignores_standing ≡ true → (ps : List (K × V)) → KeepNoBytes (canons ps)
  pairs_plain l w [] = tt
  pairs_plain l w (p ∷ ps) = ((key.standing_ignored l p.0).plain, ((value.standing_ignored w p.1).plain, pairs_plain l w ps))

  -- what is written is read again
  pub pairs_valued : (ps : List (K × V)) → Values ps → EverywhereIn IsValue (canons ps)
  pairs_valued [] i = tt
  pairs_valued (p ∷ ps) i = ((key.rewrites p.0).valued i.0.0, ((value.rewrites p.1).valued i.1, pairs_valued ps i.2))

  pub pairs_read : (ps : List (K × V)) → Values ps → ((r : Refusal) → BarsAny r (canons ps) → ⊥)
      → (ts : Terms) × EachExpandsTo (canons ps) ts
  pairs_read [] i f = (none, tt)
  pairs_read (p ∷ ps) i f =
      let x = (key.rewrites p.0).reads i.0.0 (λ r h. f r (inl h)) in
      let y = (value.rewrites p.1).reads i.1 (λ r h. f r (inr (inl h))) in
      let xs = pairs_read ps i.2 (λ r h. f r (inr (inr h))) in
      (more x.0 (more y.0 xs.0), (x.1, (y.1, xs.1)))

  pub pairs_canon_normal : (ps : List (K × V)) → all_nulls_alike (canons (normals ps)) ≡ all_nulls_alike (canons ps)
  pairs_canon_normal [] = refl
  pairs_canon_normal (p ∷ ps) = ap₂ more refl (ap₂ more (value.rewrites p.1).canon (pairs_canon_normal ps))

  pub normal_twice : (ps : List (K × V)) → Same (normals (normals ps)) (normals ps)
  normal_twice [] = tt
  normal_twice (p ∷ ps) = ((key.sameness.refl p.0, value.norm_norm p.1), normal_twice ps)

  new_normal : (k : K) (ps : List (K × V)) → IsNew key.same k ps → IsNew key.same k (normals ps)
  new_normal k [] h = tt
  new_normal k (p ∷ ps) h = (h.0, new_normal k ps h.1)

  pub keys_normal : (ps : List (K × V)) → HaveOtherKeys key.same ps → HaveOtherKeys key.same (normals ps)
  keys_normal [] h = tt
  keys_normal (p ∷ ps) h = (new_normal p.0 ps h.0, keys_normal ps h.1)

  -- of pairs that are meant
  pub pairs_value : (ss : List Standing) (ts : Terms) (ps : List (K × V)) → Mean ss ts ps → Values ps
  pairs_value = by_induct (λ ss ts ps. Values ps) tt
      (λ s z t r p ss ts ps m n i. (
        ((key.meant s t p.0 m).value, λ l e. key.own s t l ((key.sameness.agrees p.0 l e).means s t m)),
        (value.meant z r p.1 n).value,
        i,
      ))

  pub pairs_own : (ss : List Standing) (ts : Terms) (ps : List (K × V)) → Mean ss ts ps → Same (normals ps) ps
  pairs_own = by_induct (λ ss ts ps. Same (normals ps) ps) tt
      (λ s z t r p ss ts ps m n i. ((key.sameness.refl p.0, value.own z r p.1 n), i))

  pub pairs_free : (ss : List Standing) (ts : Terms) (ps : List (K × V)) → Mean ss ts ps → (r : Refusal) → BarsAny r (canons ps) → ⊥
  pairs_free = by_induct (λ ss ts ps. (r : Refusal) → BarsAny r (canons ps) → ⊥) (λ r h. h)
      (λ s z t r p ss ts ps m n i x h. elim h [
        | inl a ↦ (key.meant s t p.0 m).free x a
        | inr a ↦ elim a [ inl b ↦ (value.meant z r p.1 n).free x b | inr b ↦ i x b ]
      ])

  pub pairs_counted : (ss : List Standing) (ts : Terms) (ps : List (K × V)) → Mean ss ts ps
      → count_pairs key.count value.count ps ≤ all_nodes ts
  pairs_counted = by_induct (λ ss ts ps. count_pairs key.count value.count ps ≤ all_nodes ts) (omega arith)
      (λ s z t r p ss ts ps m n i. omega (arith, i, (key.meant s t p.0 m).counted, (value.meant z r p.1 n).counted))

  pub pairs_many : (ss : List Standing) (ts : Terms) (ps : List (K × V)) → Mean ss ts ps → count (canons ps) ≡ count ts
  pairs_many = by_induct (λ ss ts ps. count (canons ps) ≡ count ts) refl (λ s z t r p ss ts ps m n i. ap (λ n. suc (suc n)) i)

  pub standings_many : (ss : List Standing) (ts : Terms) (ps : List (K × V)) → Mean ss ts ps → length ss ≡ count ts
  standings_many = by_induct (λ ss ts ps. length ss ≡ count ts) refl (λ s z t r p ss ts ps m n i. ap (λ n. suc (suc n)) i)

  pub pairs_nested : (ss : List Standing) (ts : Terms) (ps : List (K × V)) → Mean ss ts ps → (us : Terms) → EachExpandsTo (canons ps) us
      → nests us ≤ nests ts
  pairs_nested = by_induct (λ ss ts ps. (us : Terms) → EachExpandsTo (canons ps) us → nests us ≤ nests ts)
      (λ us. read_none us (λ us. nests us ≤ 0) (omega arith))
      (λ s z t r p ss ts ps m n i us. read_more (key.canon p.0) (more (value.canon p.1) (canons ps)) us
      (λ us. nests us ≤ nests (more t (more r ts))) (λ x xs a. read_more (value.canon p.1) (canons ps) xs
      (λ xs. nests (more x xs) ≤ nests (more t (more r ts))) (λ y ys b k.
      omega (arith, (key.meant s t p.0 m).nested x a, (value.meant z r p.1 n).nested y b, i ys k))))

  pub pairs_writable : (ss : List Standing) (ts : Terms) (ps : List (K × V)) → Mean ss ts ps → EachSpells ss ts
      → (r : Refusal) → SomewhereIn (IsRefused r) (canons ps) → r ≡ too_large
  pairs_writable = by_induct (λ ss ts ps. EachSpells ss ts → (r : Refusal) → SomewhereIn (IsRefused r) (canons ps) → r ≡ too_large)
      (λ e r h. absurd h)
      (λ s z t r p ss ts ps m n i e x h. elim h [
        | inl a ↦ (key.meant s t p.0 m).writable e.0 x a
        | inr a ↦ elim a [ inl b ↦ (value.meant z r p.1 n).writable e.1.0 x b | inr b ↦ i e.1.1 x b ]
      ])

  pub pairs_mean : (ss : List Standing) (ps : List (K × V)) (ts : Terms) → Values ps → EachCanonical ss (canons ps)
      → EachExpandsTo (canons ps) ts → Mean ss ts (normals ps)
  pairs_mean [] [] none i c r = tt
  pairs_mean [] [] (more t ts) i c r = absurd r
  pairs_mean [] (p ∷ ps) ts i c r = absurd c
  pairs_mean (s ∷ ss) [] ts i c r = absurd c
  pairs_mean (s ∷ []) (p ∷ ps) ts i c r = absurd c.1
  pairs_mean (s ∷ z ∷ ss) (p ∷ ps) none i c r = absurd r
  pairs_mean (s ∷ z ∷ ss) (p ∷ ps) (more t none) i c r = absurd r.1
  pairs_mean (s ∷ z ∷ ss) (p ∷ ps) (more t (more y ts)) i c r = (
    (key.sameness.agrees (normal key.norm p.0) p.0 (i.0.1 p.0 (key.sameness.refl p.0))).means s t
        ((key.rewrites p.0).means s t i.0.0 c.0.0 c.0.1 r.0),
    ((value.rewrites p.1).means z y i.1 c.1.0.0 c.1.0.1 r.1.0, pairs_mean ss ps ts i.2 c.1.1 r.1.1),
  )

  pub pairs_canon_mean : key.ignores_standing ≡ true → value.ignores_standing ≡ true → (s : Standing) (ps : List (K × V)) → Values ps
      → ((r : Refusal) → BarsAny r (canons ps) → ⊥) → Mean (map (λ x. s) (in_turn ps)) (canons ps) (normals ps)
  pairs_canon_mean l w s [] i f = tt
  pairs_canon_mean l w s (p ∷ ps) i f = (
    (key.sameness.agrees (normal key.norm p.0) p.0 (i.0.1 p.0 (key.sameness.refl p.0))).means s (key.canon p.0)
        ((key.standing_ignored l p.0).canon_means s i.0.0 (λ r h. f r (inl h))),
    (
      (value.standing_ignored w p.1).canon_means s i.1 (λ r h. f r (inr (inl h))),
      pairs_canon_mean l w s ps i.2 (λ r h. f r (inr (inr h))),
    ),
  )
