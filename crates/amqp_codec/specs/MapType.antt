-- Maps (Part 1, section 1.6.23): the type of lists of pairs, no two of which have the same key.
use Rattle.std.proofs.Common.{suc, true, ◌&&◌, List, refl}
use Rattle.amqp_model.specs.Term.{map, container}
use Rattle.amqp_codec.specs.Faults.{Faults}
use Rattle.amqp_codec.specs.TermType.{TermType}
use Rattle.amqp_codec.specs.Keys.{IsOwnKey}
use Rattle.amqp_codec.specs.Pairs.{pair_canons, count_pairs, HaveOtherKeys, OfPairs, SamePairs, norm_values, MeansMap}
use Rattle.amqp_codec.specs.laws.Pair.{pairs_refl, pairs_sym, pairs_trans}
use Rattle.amqp_codec.specs.laws.MapType.{map_agrees, map_one, map_rewrites, map_ignores, map_norm_norm, map_own, map_meant, map_least}

module _ {K V : Type 0} (key : TermType K) (value : TermType V) where
  -- The type of maps; why none is read is said where their reading is.
  abbrev pub map_type : Faults → TermType (List (K × V))
  map_type faults = record {
    is_value = λ ps. OfPairs (IsOwnKey key) value.is_value ps × HaveOtherKeys key.same ps;
    means = MeansMap (key.ignores_standing && value.ignores_standing) key.means value.means key.same;
    faults = faults;
    canon = λ ps. container map (pair_canons key.canon value.canon ps);
    norm = norm_values value.norm;
    same = SamePairs key.same value.same;
    count = λ ps. suc (count_pairs key.count value.count ps);
    is_never_null = true;
    ignores_standing = key.ignores_standing && value.ignores_standing;
    takes_memory = true;
    is_least = key.is_least && value.is_least;
    sameness = record {
      refl = pairs_refl key value;
      sym = pairs_sym key value;
      trans = pairs_trans key value;
      agrees = map_agrees key value;
      one = map_one key value;
    };
    rewrites = map_rewrites key value;
    meant = map_meant key value;
    own = map_own key value;
    norm_norm = map_norm_norm key value;
    formed = λ s z t r ps qs m n e. refl;
    never_null = λ _ ps. refl;
    standing_ignored = map_ignores key value;
    least = map_least key value;
  }
