-- Maps as lists of pairs (Part 1, section 1.6.23): their keys and values in turn, and what they mean.
use Rattle.std.specs.Prelude.{◌⊎◌, ℕ, Bool, List, [], ◌∷◌, map}
use Rattle.std.proofs.Common.{inl, inr}
use Rattle.std.specs.List.{AllZip}
use Rattle.amqp_model.specs.Term.{map as map_kind, Term, Terms}
use Rattle.amqp_model.specs.Standing.{Standing}
use Rattle.amqp_model.specs.FieldType.{Norm, unchanged, by_norm}
use Rattle.amqp_codec.specs.EitherMeaning.{either, IsEither}
use Rattle.amqp_codec.specs.Each.{EachMeans, canons_of, count_all, MeansItems}

-- Keys and values in turn.
abbrev pub in_turn : {K V : Type 0} → List (K × V) → List (K ⊎ V)
in_turn [] = []
in_turn (p ∷ ps) = inl p.0 ∷ inr p.1 ∷ in_turn ps

-- The terms, standing so, mean the keys and values in turn.
abbrev pub PairsMean : {K V : Type 0} → (Standing → Term → K → Type 0) → (Standing → Term → V → Type 0) → List Standing → Terms
    → List (K × V) → Type 0
PairsMean keys values ss ts ps = EachMeans (λ s t. IsEither (keys s t) (values s t)) ss ts (in_turn ps)

-- The canonical terms of the keys and values in turn.
abbrev pub pair_canons : {K V : Type 0} → (K → Term) → (V → Term) → List (K × V) → Terms
pair_canons key value ps = canons_of (either key value) (in_turn ps)

abbrev pub count_pairs : {K V : Type 0} → (K → ℕ) → (V → ℕ) → List (K × V) → ℕ
count_pairs key value ps = count_all (either key value) (in_turn ps)

-- The key is no other's.
abbrev pub IsNew : {K V : Type 0} → (K → K → Type 0) → K → List (K × V) → Type 0
IsNew same k [] = Unit {0}
IsNew same k (p ∷ ps) = (same k p.0 → ⊥) × IsNew same k ps

-- No two keys are the same.
abbrev pub HaveOtherKeys : {K V : Type 0} → (K → K → Type 0) → List (K × V) → Type 0
HaveOtherKeys same [] = Unit {0}
HaveOtherKeys same (p ∷ ps) = IsNew same p.0 ps × HaveOtherKeys same ps

-- Of each key and its value.
abbrev pub OfPairs : {K V : Type 0} → (K → Type 0) → (V → Type 0) → List (K × V) → Type 0
OfPairs key value [] = Unit {0}
OfPairs key value (p ∷ ps) = key p.0 × value p.1 × OfPairs key value ps

abbrev pub SamePairs : {K V : Type 0} → (K → K → Type 0) → (V → V → Type 0) → List (K × V) → List (K × V) → Type 0
SamePairs keys values = AllZip (λ p q. keys p.0 q.0 × values p.1 q.1)

-- Values are normalised. A key is its own normal value.
abbrev pub with_values : {K V : Type 0} → (V → V) → List (K × V) → List (K × V)
with_values f ps = map (λ p. (p.0, f p.1)) ps

abbrev pub norm_values : {K V : Type 0} → Norm V → Norm (List (K × V))
norm_values unchanged = unchanged
norm_values (by_norm f) = by_norm (with_values f)

-- A map's terms mean the keys and values in turn, as they stand in it, and no two keys are the same.
abbrev pub MeansMap : {K V : Type 0} → Bool → (Standing → Term → K → Type 0) → (Standing → Term → V → Type 0) → (K → K → Type 0)
    → Standing → Term → List (K × V) → Type 0
MeansMap ignores_standing keys values same s t ps =
    MeansItems ignores_standing (λ s t. IsEither (keys s t) (values s t)) map_kind s t (in_turn ps) × HaveOtherKeys same ps
