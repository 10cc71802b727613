-- Lemmas of values with descriptors of their own.
use Rattle.std.proofs.Common.{◌≡◌, inl, inr, ℕ, ◌≤◌, Bool, true, false, List, [], ◌∷◌, ◌++◌, length, length-append, get_or, refl, sym, ap}
use Rattle.std.proofs.Common.{ap₂, ◌∙◌, subst, arith}
use Rattle.amqp_model.specs.Term.{Refusal, too_large, Descriptor, Term, leaf, container, described, kept, barred}
use Rattle.amqp_model.specs.Spelling.{descriptor_value}
use Rattle.amqp_model.specs.Standing.{Standing, whole, Parts}
use Rattle.amqp_model.specs.Text.{Alone, text, form, shortest, spell}
use Rattle.amqp_model.specs.Measures.{nest}
use Rattle.amqp_model.specs.Ranges.{IsBytes}
use Rattle.amqp_model.specs.Refusals.{Somewhere, IsRefused, core}
use Rattle.amqp_model.specs.Kept.{ExpandsTo}
use Rattle.amqp_model.specs.FieldType.{Norm, normal, unchanged, by_norm}
use Rattle.amqp_model.specs.laws.Item.{clash}
use Rattle.amqp_model.proofs.Least.{bytes_left, bytes_right}
use Rattle.amqp_model.proofs.Placed.{parts_one}
use Rattle.amqp_codec.specs.TermType.{TermType, View, view_of, Agrees, Sameness, Rewrites, IgnoresStanding, Meant, IsNoShorter, Spells}
use Rattle.amqp_codec.specs.TermType.{StandsCanonically, IsUnrefused, IsKept, IsPart}
use Rattle.amqp_codec.specs.laws.KeptBytes.{plain_core}
use Rattle.amqp_codec.specs.laws.OnlySize.{size_alone, described_flawless}
use Rattle.amqp_codec.specs.laws.ItemsType.{by_test}
use Rattle.amqp_codec.specs.laws.DescribedTerm.{described_split, described_placed, described_part, described_reads, described_canonically}
use Rattle.amqp_codec.specs.laws.DescribedTerm.{under, under_one, under_none, one_descriptor}
use Rattle.amqp_codec.specs.DescribedPairMeaning.{DescriptorType, MeansPair, norm_second}

-- what holds of each term that is described so, holds of all that is meant
pub pair_cases : {D T : Type 0} (describes : Descriptor → D → Type 0) (ignores : Bool) (means : Standing → Term → T → Type 0)
    (s : Standing) (v : D × T) (P : Term → Type 0)
    → ((d : Descriptor) (x : Term) (z : Standing) → describes d v.0 → (ignores ≡ false → Parts s (described d x) (z ∷ []))
    → means z x v.1 → P (described d x))
    → (t : Term) → MeansPair describes ignores means s t v → P t
pair_cases describes ignores means s v P f (described d t) (q, z, p, m) = f d t z q p m
pair_cases describes ignores means s v P f (leaf p) m = absurd m
pair_cases describes ignores means s v P f (container k ts) m = absurd m
pair_cases describes ignores means s v P f (kept b) m = absurd m
pair_cases describes ignores means s v P f (barred r) m = absurd m

pub second_normal : {D T : Type 0} (n : Norm T) (v : D × T) → normal (norm_second n) v ≡ (v.0, normal n v.1)
second_normal unchanged v = refl
second_normal (by_norm f) v = refl

module _ {D T : Type 0} (k : DescriptorType D) (u : TermType T) where
  abbrev IsPair : D × T → Type 0
  IsPair v = k.is_value v.0 × u.is_value v.1

  abbrev means : Standing → Term → D × T → Type 0
  means = MeansPair k.means u.ignores_standing u.means

  abbrev canon : D × T → Term
  canon v = described (k.canon v.0) (u.canon v.1)

  abbrev same : D × T → D × T → Type 0
  same v w = (v.0 ≡ w.0) × u.same v.1 w.1

  abbrev view : D × T → View
  view = view_of IsPair means canon

  abbrev by_pair : (s : Standing) (v : D × T) (P : Term → Type 0)
      → ((d : Descriptor) (x : Term) (z : Standing) → k.means d v.0 → (u.ignores_standing ≡ false → Parts s (described d x) (z ∷ []))
      → u.means z x v.1 → P (described d x))
      → (t : Term) → means s t v → P t
  by_pair = pair_cases k.means u.ignores_standing u.means

  -- what holds of the second normalised, holds of the pair normalised
  normally : (P : D × T → Type 0) (v : D × T) → P (v.0, normal u.norm v.1) → P (normal (norm_second u.norm) v)
  normally P v = subst P (sym (second_normal u.norm v))

  -- what is described is meant as any other standing of it says
  pub means_as : (s : Standing) (d : Descriptor) (x : Term) (z y : Standing) (v : T)
      → (u.ignores_standing ≡ false → Parts s (described d x) (z ∷ [])) → (u.ignores_standing ≡ false → Parts s (described d x) (y ∷ []))
      → u.means z x v → u.means y x v
  means_as s d x z y v p q m =
      by_test u.ignores_standing (u.means y x v) (λ e. (u.standing_ignored e v).means z y x m)
      (λ e. subst (λ w. u.means w x v) (ap (λ l. get_or l 0 z) (parts_one s (described d x) (z ∷ []) (y ∷ []) (p e) (q e))) m)

  pair_agrees : (v w : D × T) → same v w → Agrees (view v) (view w)
  pair_agrees v w h =
      let a = u.sameness.agrees v.1 w.1 h.1 in
      record {
        value = λ i. (subst k.is_value h.0 i.0, a.value i.1);
        means = λ s. by_pair s v (λ t. means s t w) (λ d x z q p m. (subst (k.means d) h.0 q, z, p, a.means z x m));
        canon = ap₂ described (ap k.canon h.0) a.canon;
      }

  pair_one : (s : Standing) (t : Term) (v w : D × T) → means s t v → means s t w → same v w
  pair_one s t v w =
      by_pair s v (λ t. means s t w → same v w)
      (λ d x z q p m h. (k.one d v.0 w.0 q h.0, u.sameness.one z x v.1 w.1 m (means_as s d x h.1 z w.1 h.2 p h.3))) t

  pub pair_sameness : Sameness same view
  pair_sameness = record {
    refl = λ v. (refl, u.sameness.refl v.1);
    sym = λ v w h. (sym h.0, u.sameness.sym v.1 w.1 h.1);
    trans = λ v w x h i. (h.0 ∙ i.0, u.sameness.trans v.1 w.1 x.1 h.1 i.1);
    agrees = pair_agrees;
    one = pair_one;
  }

  rewritten_means : (s : Standing) (v : D × T) → IsPair v → IsUnrefused (canon v) → StandsCanonically s (canon v)
      → (x : Term) → ExpandsTo (u.canon v.1) x → means s (described (k.canon v.0) x) (v.0, normal u.norm v.1)
  rewritten_means s v i f c x r =
      let y = described_canonically s (k.canon v.0) (u.canon v.1) x (k.in_range v.0 i.0) f c in
      (k.canon_means v.0 i.0, y.1, λ _. y.2, (u.rewrites v.1).means y.1 x i.1 y.0 y.3 r)

  pub pair_rewrites : (v : D × T) → Rewrites (view v) (view (normal (norm_second u.norm) v))
  pair_rewrites v = normally (λ w. Rewrites (view v) (view w)) v (record {
    valued = λ i. (k.in_range v.0 i.0, (u.rewrites v.1).valued i.1);
    reads = λ i f. (let r = (u.rewrites v.1).reads i.1 f in (described (k.canon v.0) r.0, (refl, r.1)));
    means = λ s t i f c.
        described_reads (k.canon v.0) (u.canon v.1) (λ t. means s t (v.0, normal u.norm v.1)) (rewritten_means s v i f c) t;
    canon = ap (described (k.canon v.0)) (u.rewrites v.1).canon;
  })

  writable : (s : Standing) (d : Descriptor) (x : Term) (z : Standing) (v : D × T) → k.means d v.0
      → (u.ignores_standing ≡ false → Parts s (described d x) (z ∷ [])) → u.means z x v.1 → Spells s (described d x) → (r : Refusal)
      → Somewhere (IsRefused r) (canon v) → r ≡ too_large
  writable s d x z v q p m h r (inl i) =
      let y = described_placed s d x h in
      size_alone (described_flawless (k.canon v.0) (u.canon v.1) (k.valid d v.0 q y.0)) r i
  writable s d x z v q p m h r (inr i) =
      let y = described_placed s d x h in
      (u.meant y.1 x v.1 (means_as s d x z y.1 v.1 p (λ _. y.2) m)).writable y.3 r i

  bare_data : (s : Standing) (d : Descriptor) (x : Term) (z : Standing) (v : T)
      → (u.ignores_standing ≡ false → Parts s (described d x) (z ∷ [])) → u.means z x v → IsPart s → IsKept (core (u.canon v)) → ⊥
  bare_data s d x z v p m i =
      by_test u.ignores_standing (IsKept (core (u.canon v)) → ⊥) (λ e. plain_core (u.canon v) (u.standing_ignored e v).plain)
      (λ e. (u.meant z x v m).bare_data (described_part s d x z (p e) i))

  pub pair_meant : (s : Standing) (t : Term) (v : D × T) → means s t v → Meant s t (IsPair v) (canon v) (u.count v.1)
  pair_meant s t v = by_pair s v (λ t. Meant s t (IsPair v) (canon v) (u.count v.1)) (λ d x z q p m. (
      let inner = u.meant z x v.1 m in
      record {
        value = (k.value d v.0 q, inner.value);
        free = inner.free;
        writable = writable s d x z v q p m;
        bare_data = bare_data s d x z v.1 p m;
        null_alike = refl;
        core_null = λ e. ap (under d) (inner.core_null e);
        formless = λ e. ap (under (k.canon v.0)) (inner.formless (under_none d (form x) e));
        nested = λ y. described_reads (k.canon v.0) (u.canon v.1) (λ y. nest y ≤ nest (described d x))
            (λ w r. omega (arith, inner.nested w r)) y;
        leaf_alike = λ y r h. absurd h;
        counted = inner.counted;
      })) t

  pub pair_formed : (s z : Standing) (t r : Term) (v w : D × T) → means s t v → means z r w → form t ≡ form r
      → form (canon v) ≡ form (canon w)
  pair_formed s z t r v w m n =
      by_pair s v (λ t. form t ≡ form r → form (canon v) ≡ form (canon w))
      (λ d x y q p i. by_pair z w (λ r. under d (form x) ≡ form r → form (canon v) ≡ form (canon w))
      (λ e x' y' q' p' j h.
      (let same_form : form (u.canon v.1) ≡ form (u.canon w.1) =
      u.formed y y' x x' v.1 w.1 i j (under_one d e (form x) (form x') h) in
      elim (one_descriptor d e (form x) (form x') h) [
        | inl none ↦
            let bare = (u.meant y x v.1 i).formless none in
            ap (under (k.canon v.0)) bare ∙ sym (ap (under (k.canon w.0)) (sym same_form ∙ bare))
        | inr one ↦
            ap₂ (λ a f. under (k.canon a) f) (k.one d v.0 w.0 q (subst (λ g. k.means g w.0) (sym one) q')) same_form
      ])) r n) t m

  pub pair_ignores : u.ignores_standing ≡ true → (v : D × T) → IgnoresStanding (view v) (view (normal (norm_second u.norm) v))
  pair_ignores l v = normally (λ w. IgnoresStanding (view v) (view w)) v (record {
    plain = (u.standing_ignored l v.1).plain;
    means = λ s z. by_pair s v (λ t. means z t v) (λ d x y q p m. (q, y, λ e. absurd (clash l e), m));
    canon_means = λ s i f. (k.canon_means v.0 i.0, s, λ e. absurd (clash l e), (u.standing_ignored l v.1).canon_means s i.1 f);
  })

  pub pair_norm_norm : (v : D × T)
      → same (normal (norm_second u.norm) (normal (norm_second u.norm) v)) (normal (norm_second u.norm) v)
  pair_norm_norm v =
      normally (λ w. same (normal (norm_second u.norm) w) w) v
      (normally (λ w. same w (v.0, normal u.norm v.1)) (v.0, normal u.norm v.1) (refl, u.norm_norm v.1))

  pub pair_own : (s : Standing) (t : Term) (v : D × T) → means s t v → same (normal (norm_second u.norm) v) v
  pair_own s t v =
      by_pair s v (λ t. same (normal (norm_second u.norm) v) v)
      (λ d x z q p m. normally (λ w. same w v) v (refl, u.own z x v.1 m)) t

  described_least : u.is_least ≡ true → (b : List ℕ) (v : D × T) (d : Descriptor) (x : Term) (z : Standing) → k.means d v.0
      → (u.ignores_standing ≡ false → Parts (whole b) (described d x) (z ∷ [])) → u.means z x v.1
      → IsNoShorter b (described d x) (canon v)
  unfolding text
  described_least l b v d x z q p m bytes n h =
      let y = described_split b d x h in
      let all : IsBytes (0 ∷ (y.0 ++ y.1)) = subst IsBytes y.2 bytes in
      omega (
        arith,
        ap length y.2,
        length-append y.0 y.1,
        length-append (spell (shortest (descriptor_value (k.canon v.0)))) (text (u.canon v.1) Alone),
        k.least d v.0 y.0 q y.3 (bytes_left y.0 y.1 all.1),
        u.least l y.1 x v.1
            (means_as (whole b) d x z (whole y.1) v.1 p (λ _. (y.0, y.1, y.2, y.3, refl)) m) (bytes_right y.0 y.1 all.1) n.1 y.4,
      )

  pub pair_least : u.is_least ≡ true → (b : List ℕ) (t : Term) (v : D × T) → means (whole b) t v → IsNoShorter b t (canon v)
  pair_least l b t v = by_pair (whole b) v (λ t. IsNoShorter b t (canon v)) (described_least l b v) t
