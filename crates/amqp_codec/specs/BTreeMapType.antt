-- Maps whose pairs are kept in the order of their keys (Part 1, section 1.6.23): their type is that of lists of pairs, but for the order.
use Rattle.std.proofs.Common.{suc, true, ◌&&◌, refl, Ordering}
use Rattle.std.specs.BTreeMap.{BTreeMap}
use Rattle.amqp_model.specs.Term.{map, container}
use Rattle.amqp_codec.specs.TermType.{TermType}
use Rattle.amqp_codec.specs.Pairs.{pair_canons, count_pairs, SamePairs}
use Rattle.amqp_codec.specs.laws.Pair.{pairs_refl, pairs_sym, pairs_trans}
use Rattle.amqp_codec.specs.laws.MapReading.{map_faults}
use Rattle.amqp_codec.specs.BTreeMapMeaning.{norm_entries, MeansInOrder, AreInOrder}
use Rattle.amqp_codec.specs.laws.BTreeMapType.{map_agrees, map_one, map_rewrites, map_ignores, map_norm_norm, map_own, map_meant, map_least}

module _ {K V : Type 0} (key : TermType K) (value : TermType V) (cmp : K → K → Ordering) where
  -- The type of maps in the order of their keys.
  abbrev pub btree_map_of : TermType (BTreeMap K V)
  btree_map_of = record {
    is_value = λ m. AreInOrder key value cmp m.entries;
    means = MeansInOrder key value cmp;
    faults = map_faults key value;
    canon = λ m. container map (pair_canons key.canon value.canon m.entries);
    norm = norm_entries value.norm;
    same = λ m n. SamePairs key.same value.same m.entries n.entries;
    count = λ m. suc (count_pairs key.count value.count m.entries);
    is_never_null = true;
    ignores_standing = key.ignores_standing && value.ignores_standing;
    takes_memory = true;
    is_least = key.is_least && value.is_least;
    sameness = record {
      refl = λ m. pairs_refl key value m.entries;
      sym = λ m n. pairs_sym key value m.entries n.entries;
      trans = λ m n o. pairs_trans key value m.entries n.entries o.entries;
      agrees = map_agrees key value cmp;
      one = map_one key value cmp;
    };
    rewrites = map_rewrites key value cmp;
    meant = map_meant key value cmp;
    own = map_own key value cmp;
    norm_norm = map_norm_norm key value cmp;
    formed = λ s z t u m n h k e. refl;
    never_null = λ _ m. refl;
    standing_ignored = map_ignores key value cmp;
    least = map_least key value cmp;
  }
