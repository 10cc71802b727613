-- Maps of values of any kind are read by themselves: what each exit of their reader answers.
use Rattle.std.proofs.Common.{ℕ, suc, true, List, refl}
use Rattle.amqp_model.specs.Term.{map, Term}
use Rattle.amqp_model.specs.Standing.{Standing}
use Rattle.amqp_wire.specs.declared.error.Error.{Error}
use Rattle.amqp_decoder.specs.State.{State}
use Rattle.amqp_decoder.specs.Primitives.{ReadsValue}
use Rattle.amqp_decoder.specs.Containers.{Opens}
use Rattle.amqp_decoder.specs.Places.{Located, RefusesAt}
use Rattle.amqp_codec.specs.laws.Refusal.{refused_first}
use Rattle.amqp_codec.specs.MapReading.{ReadsPairsRow, ReadsFewer, PairsFault, MapFault, at_key, twice, told_twice, at_value}
use Rattle.amqp_kinds.specs.laws.TreeMeanings.{map_means, means_map}
use Rattle.amqp_values.specs.declared.map.ValueMap.{ValueMap}
use Rattle.amqp_values.specs.declared.value.Value.{Value, Map as MapOf}
use Rattle.amqp_values.specs.Values.{value_term, pairs_of}
use Rattle.amqp_values.specs.laws.Values.{values_are_trees, map_is}
use Rattle.amqp_values.specs.ValueMembers.{MeansPairs}
use Rattle.amqp_values.specs.Levels.{value_in, IsBounded}
use Rattle.amqp_values.specs.ValueType.{value_type}
use Rattle.amqp_values.specs.ValueMapType.{value_map_type}
use Rattle.amqp_values.proofs.ValueSteps.{list_deeper, bounded_inside}

abbrev AnyMap : State → ValueMap → State → Type 0
AnyMap = ReadsValue value_map_type.means

abbrev MapPairs : State → List (Value × Value) → State → Type 0
MapPairs = ReadsValue MeansPairs

-- what stands means this too
meant_so : {A B : Type 0} (P : Standing → Term → A → Type 0) (Q : Standing → Term → B → Type 0) (x : A) (y : B)
    → ((s : Standing) (t : Term) → P s t x → Q s t y) → (st b : State) → ReadsValue P st x b → ReadsValue Q st y b
meant_so P Q x y f st b h =
    record { bytes = h.bytes; term = h.term; stands = h.stands; moved = h.moved; meant = f _ h.term h.meant }

-- a map that stands is its pairs
as_pairs : (st : State) (m : ValueMap) (b : State) → AnyMap st m b → MapPairs st (pairs_of m) b
as_pairs st m b =
    meant_so value_map_type.means MeansPairs m (pairs_of m)
    (λ s t. means_map value_term values_are_trees s t (pairs_of m) (MapOf m) (map_is m)) st b

pub as_map : (st : State) (m : ValueMap) (b : State) → MapPairs st (pairs_of m) b → AnyMap st m b
as_map st m b =
    meant_so MeansPairs value_map_type.means (pairs_of m) m
    (λ s t. map_means value_term values_are_trees s t (pairs_of m) (MapOf m) (map_is m)) st b

-- what is refused as its pairs
pub map_refused : (st : State) (e : Error) (new : State) → RefusesAt true MapPairs (MapFault value_type value_type) st e new
    → RefusesAt true AnyMap (MapFault value_type value_type) st e new
map_refused st e new =
    refused_first MapPairs (MapFault value_type value_type) AnyMap (MapFault value_type value_type) st e new (λ x. x) (λ _ f. f)
    (λ none m b h. none (pairs_of m) b (as_pairs st m b h))

-- keys and values that hold so many levels of others are any
module _ (levels : ℕ) (n : ℕ) where
  fewer_any : (st : State) (ps : List (Value × Value)) (mid : State) → ReadsFewer (value_in levels) (value_in levels) n st ps mid
      → ReadsFewer value_type value_type n st ps mid
  fewer_any st ps mid h = record { fewer = h.fewer; each = h.each }

  fault_any : (st : State) (e : Located) → PairsFault (value_in levels) (value_in levels) n st e → PairsFault value_type value_type n st e
  fault_any st e (at_key ps mid h f) = at_key ps mid (fewer_any st ps mid h) (record { levels = suc levels; named = f })
  fault_any st e (twice ps mid after k h o r known is place) = twice ps mid after k (fewer_any st ps mid h) o r known is place
  fault_any st e (told_twice all b ps mid after k each h o r known is place) =
      told_twice all b ps mid after k each (fewer_any st ps mid h) o r known is place
  fault_any st e (at_value ps mid after k h r f) =
      at_value ps mid after k (fewer_any st ps mid h) r (record { levels = suc levels; named = f })

  pub row_any : (st : State) (ps : List (Value × Value)) (b : State) → ReadsPairsRow (value_in levels) (value_in levels) n st ps b
      → ReadsPairsRow value_type value_type n st ps b
  row_any st ps b h = record { long = h.long; each = h.each; others = h.others }

  row_of : (st : State) (ps : List (Value × Value)) (b : State) → ReadsPairsRow value_type value_type n st ps b
      → ReadsPairsRow (value_in levels) (value_in levels) n st ps b
  row_of st ps b h = record { long = h.long; each = h.each; others = h.others }

  pub row_refused_any : (st : State) (e : Error) (new : State)
      → RefusesAt true (ReadsPairsRow (value_in levels) (value_in levels) n) (PairsFault (value_in levels) (value_in levels) n) st e new
      → RefusesAt true (ReadsPairsRow value_type value_type n) (PairsFault value_type value_type n) st e new
  row_refused_any st e new =
      refused_first (ReadsPairsRow (value_in levels) (value_in levels) n) (PairsFault (value_in levels) (value_in levels) n)
      (ReadsPairsRow value_type value_type n) (PairsFault value_type value_type n) st e new (λ x. x) (fault_any st)
      (λ none ps b h. none ps b (row_of st ps b h))

-- in a map that was opened a level less is left
pub map_bounded : (st : State) (n : ℕ) (first : State) → Opens map st n first → IsBounded 129 st → IsBounded 128 first
map_bounded st n first o bounded = bounded_inside 129 128 st first (list_deeper map st n first o) bounded refl
