-- How the pairs of a map are written: keys and values in turn, each as one term (Part 1, section 1.6.23).
use Rattle.std.proofs.Common.{Bool, List, [], ◌∷◌, map as each_of}
use Rattle.std.specs.List.{IsDistinct}
use Rattle.std.specs.Map.{keys_of}
use Rattle.amqp_model.specs.Term.{map, Term, container}
use Rattle.amqp_codec.specs.Faults.{Faults}
use Rattle.amqp_codec.specs.TermType.{TermType}
use Rattle.amqp_codec.specs.EitherMeaning.{either}
use Rattle.amqp_codec.specs.Pairs.{in_turn, pair_canons, OfPairs}
use Rattle.amqp_codec.specs.MapType.{map_type}
use Rattle.amqp_codec.specs.Keys.{IsKey}
use Rattle.amqp_codec.specs.Written.{Writing, canon_of}
use Rattle.amqp_codec.specs.Agreement.{Agreement}
use Rattle.amqp_codec.specs.laws.MapWriting.{map_proper, distinct_others, others_distinct, own_keys, any_keys, canons_agree, pairs_to}
use Rattle.amqp_codec.specs.laws.MapWriting.{pairs_from}

module _ {K V : Type 0} (key : Writing K) (value : Writing V) where
  -- The canonical terms of the keys and values in turn.
  abbrev pub turn_terms : List (K × V) → List Term
  turn_terms ps = each_of (either (canon_of key) (canon_of value)) (in_turn ps)

  -- The canonical term of the map of these pairs.
  abbrev pub map_canon : List (K × V) → Term
  map_canon ps = container map (pair_canons (canon_of key) (canon_of value) ps)

  -- How maps are written of whose keys this holds.
  abbrev pub map_writing : (List K → Type 0) → Writing (List (K × V))
  map_writing are_keys = record {
    canons = λ ps. map_canon ps ∷ [];
    is_value = λ ps. OfPairs key.is_value value.is_value ps × are_keys (keys_of ps);
    proper = λ ps i. map_proper key value ps i.0;
  }

-- the ties of a map, whose keys are told from each other by the type's and by the writing's own words
module _ {K V : Type 0} {key : TermType K} {value : TermType V} {x : Writing K} {y : Writing V} (a : Agreement key x)
    (b : Agreement value y) where
  pub map_agreement : {eq : K → K → Bool} (is_key : IsKey key eq) (f : Faults)
      → Agreement (map_type key value f) (map_writing x y (IsDistinct eq))
  map_agreement is_key f = record {
    canons_is = canons_agree a b;
    value_to = λ ps i. (own_keys key value.is_value is_key.own ps (pairs_to a b ps i.0), distinct_others is_key ps i.1);
    value_from = λ ps i. (pairs_from a b ps (any_keys key value.is_value ps i.0), others_distinct is_key ps i.1);
  }
