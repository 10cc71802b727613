-- Maps whose pairs are kept in the order of their keys: which terms mean them, and how their values are normalised.
use Rattle.std.proofs.Common.{◌≡◌, ◌&&◌, List, Ordering}
use Rattle.std.specs.BTreeMap.{BTreeMap}
use Rattle.std.specs.List.Sorted.{IsStrictlySortedBy}
use Rattle.std.specs.Map.{keys_of}
use Rattle.std_collections.specs.Layout.BTreeMap.{with_entries}
use Rattle.amqp_model.specs.Term.{Term}
use Rattle.amqp_model.specs.Standing.{Standing}
use Rattle.amqp_model.specs.FieldType.{Norm, unchanged, by_norm}
use Rattle.amqp_codec.specs.TermType.{TermType}
use Rattle.amqp_codec.specs.Keys.{IsOwnKey}
use Rattle.amqp_codec.specs.Pairs.{OfPairs, with_values, MeansMap}
use Rattle.amqp_codec.specs.KeyOrder.{in_order, IsOrderOf}

-- Values are normalised. A key is its own normal value.
abbrev pub norm_entries : {K V : Type 0} → Norm V → Norm (BTreeMap K V)
norm_entries unchanged = unchanged
norm_entries (by_norm f) = by_norm (λ m. with_entries m (with_values f m.entries))

module _ {K V : Type 0} (key : TermType K) (value : TermType V) (cmp : K → K → Ordering) where
  -- The term means pairs, which the map has in the order of their keys.
  pub record MeansInOrder (s : Standing) (t : Term) (m : BTreeMap K V) : Type 0 where
    pub pairs : List (K × V)
    pub meant : MeansMap (key.ignores_standing && value.ignores_standing) key.means value.means key.same s t pairs
    pub sorted : m.entries ≡ in_order cmp pairs
    pub order : IsOrderOf cmp key.same

  -- Keys and values are of their types, and the keys ascend.
  abbrev pub AreInOrder : List (K × V) → Type 0
  AreInOrder ps = OfPairs (IsOwnKey key) value.is_value ps × IsStrictlySortedBy cmp (keys_of ps) × IsOrderOf cmp key.same
