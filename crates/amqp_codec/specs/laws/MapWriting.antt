-- Lemmas of how the pairs of a map are written.
use Rattle.std.proofs.Common.{◌≡◌, Bool, false, List, [], ◌∷◌, refl, ap, ap₂}
use Rattle.std.specs.List.{IsDistinct, AllByRecursion}
use Rattle.std.specs.Map.{keys_of}
use Rattle.amqp_model.specs.Term.{map, Term, container, more}
use Rattle.amqp_model.specs.Ranges.{Everywhere, EverywhereIn}
use Rattle.amqp_model.specs.laws.Item.{clash}
use Rattle.amqp_model.specs.FieldType.{normal}
use Rattle.amqp_codec.specs.TermType.{TermType}
use Rattle.amqp_codec.specs.laws.ItemsType.{by_test}
use Rattle.amqp_codec.specs.Pairs.{pair_canons, IsNew, HaveOtherKeys, OfPairs}
use Rattle.amqp_codec.specs.laws.Pair.{pairs_even}
use Rattle.amqp_codec.specs.Keys.{IsKey, IsOwnKey}
use Rattle.amqp_codec.specs.Written.{IsProper, AreProper, Writing, first_term, canon_of}
use Rattle.amqp_codec.specs.Agreement.{Agreement}

-- one term is proper, where some are
first_proper : (ts : List Term) → AreProper ts → Everywhere IsProper (first_term ts)
first_proper [] h = tt
first_proper (t ∷ ts) h = h.0

module _ {K V : Type 0} (key : Writing K) (value : Writing V) where
  turn_proper : (ps : List (K × V)) → OfPairs key.is_value value.is_value ps
      → EverywhereIn IsProper (pair_canons (canon_of key) (canon_of value) ps)
  turn_proper [] i = tt
  turn_proper (p ∷ ps) i = (
    first_proper (key.canons p.0) (key.proper p.0 i.0),
    (first_proper (value.canons p.1) (value.proper p.1 i.1), turn_proper ps i.2),
  )

  pub map_proper : (ps : List (K × V)) → OfPairs key.is_value value.is_value ps
      → AreProper (container map (pair_canons (canon_of key) (canon_of value) ps) ∷ [])
  map_proper ps i = ((pairs_even (canon_of key) (canon_of value) ps, turn_proper ps i), tt)

-- where keys are equal exactly if they are one value
module _ {K V : Type 0} {key : TermType K} {eq : K → K → Bool} (is_key : IsKey key eq) where
  new_to : (k : K) (ps : List (K × V)) → AllByRecursion (λ l. eq k l ≡ false) (keys_of ps) → IsNew key.same k ps
  new_to k [] h = tt
  new_to k (p ∷ ps) h = (λ s. clash ((is_key.decides k p.0).1 s) h.0, new_to k ps h.1)

  new_from : (k : K) (ps : List (K × V)) → IsNew key.same k ps → AllByRecursion (λ l. eq k l ≡ false) (keys_of ps)
  new_from k [] h = tt
  new_from k (p ∷ ps) h =
      (by_test (eq k p.0) (eq k p.0 ≡ false) (λ e. absurd (h.0 ((is_key.decides k p.0).0 e))) (λ e. e), new_from k ps h.1)

  pub distinct_others : (ps : List (K × V)) → IsDistinct eq (keys_of ps) → HaveOtherKeys key.same ps
  unfolding IsDistinct
  distinct_others [] h = tt
  distinct_others (p ∷ ps) h = (new_to p.0 ps h.0, distinct_others ps h.1)

  pub others_distinct : (ps : List (K × V)) → HaveOtherKeys key.same ps → IsDistinct eq (keys_of ps)
  unfolding IsDistinct
  others_distinct [] h = tt
  others_distinct (p ∷ ps) h = (new_from p.0 ps h.0, others_distinct ps h.1)

pairs_as : {K V : Type 0} (P Q : K → Type 0) (R S : V → Type 0) → ((k : K) → P k → Q k) → ((v : V) → R v → S v)
    → (ps : List (K × V)) → OfPairs P R ps → OfPairs Q S ps
pairs_as P Q R S f g [] h = tt
pairs_as P Q R S f g (p ∷ ps) h = (f p.0 h.0, g p.1 h.1, pairs_as P Q R S f g ps h.2)

canons_as : {K V : Type 0} (f g : K → Term) (h i : V → Term) → ((k : K) → f k ≡ g k) → ((v : V) → h v ≡ i v) → (ps : List (K × V))
    → pair_canons f h ps ≡ pair_canons g i ps
canons_as f g h i e d [] = refl
canons_as f g h i e d (p ∷ ps) = ap₂ more (e p.0) (ap₂ more (d p.1) (canons_as f g h i e d ps))

canon_is : {T : Type 0} {u : TermType T} {w : Writing T} → Agreement u w → (v : T) → canon_of w v ≡ u.canon v
canon_is a v = ap first_term (a.canons_is v)

-- keys that are their own normal values
pub own_keys : {K V : Type 0} (key : TermType K) (P : V → Type 0) → ((k : K) → key.same (normal key.norm k) k) → (ps : List (K × V))
    → OfPairs key.is_value P ps → OfPairs (IsOwnKey key) P ps
own_keys key P own = pairs_as key.is_value (IsOwnKey key) P P (λ k h. (h, λ l e. own l)) (λ v h. h)

pub any_keys : {K V : Type 0} (key : TermType K) (P : V → Type 0) (ps : List (K × V)) → OfPairs (IsOwnKey key) P ps
    → OfPairs key.is_value P ps
any_keys key P = pairs_as (IsOwnKey key) key.is_value P P (λ k h. h.0) (λ v h. h)

-- the ties of a map, whose keys are told from each other by the type's and by the writing's own words
module _ {K V : Type 0} {key : TermType K} {value : TermType V} {x : Writing K} {y : Writing V} (a : Agreement key x)
    (b : Agreement value y) where
  pub canons_agree : (ps : List (K × V)) → container map (pair_canons (canon_of x) (canon_of y) ps) ∷ []
      ≡ container map (pair_canons key.canon value.canon ps) ∷ []
  canons_agree ps = ap (λ ts. container map ts ∷ [])
      (canons_as (canon_of x) key.canon (canon_of y) value.canon (canon_is a) (canon_is b) ps)

  pub pairs_to : (ps : List (K × V)) → OfPairs x.is_value y.is_value ps → OfPairs key.is_value value.is_value ps
  pairs_to = pairs_as x.is_value key.is_value y.is_value value.is_value a.value_to b.value_to

  pub pairs_from : (ps : List (K × V)) → OfPairs key.is_value value.is_value ps → OfPairs x.is_value y.is_value ps
  pairs_from = pairs_as key.is_value x.is_value value.is_value y.is_value a.value_from b.value_from
