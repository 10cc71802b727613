-- What the values of each kind are made of, and that a term means them as it means that.
use Rattle.std.proofs.Common.{◌≡◌, true, List}
use Rattle.amqp_model.specs.Term.{Container, map, Term, container, described}
use Rattle.amqp_model.specs.Standing.{Standing}
use Rattle.amqp_lookahead.specs.Members.{descriptor_of}
use Rattle.amqp_codec.specs.Each.{canons_of, MeansItems}
use Rattle.amqp_codec.specs.DescribedPairMeaning.{MeansPair, any_descriptor}
use Rattle.amqp_codec.specs.Pairs.{pair_canons, MeansMap}
use Rattle.amqp_codec.specs.TreeType.{MeansTree, SameTree}
use Rattle.amqp_described.specs.declared.described.Described.{Described}
use Rattle.amqp_described.specs.DescribedType.{pair_of}
use Rattle.amqp_values.specs.declared.value.Value.{Value}
use Rattle.amqp_values.specs.Values.{value_term}
use Rattle.amqp_values.specs.laws.Values.{values_are_trees}

-- The term means the value.
abbrev pub ValueMeans : Standing → Term → Value → Type 0
ValueMeans = MeansTree value_term values_are_trees

-- A list or an array of these values.
abbrev pub IsOfItems : Container → List Value → Value → Type 0
IsOfItems k vs v = value_term v ≡ container k (canons_of value_term vs)

abbrev pub MeansValues : Container → Standing → Term → List Value → Type 0
MeansValues = MeansItems true ValueMeans

-- This behind its descriptor.
abbrev pub IsDescribed : Described Value → Value → Type 0
IsDescribed d v = value_term v ≡ described (descriptor_of d.descriptor) (value_term d.value)

abbrev pub MeansDescribed : Standing → Term → Described Value → Type 0
MeansDescribed s t d = MeansPair any_descriptor.means true ValueMeans s t (pair_of d)

-- A map of these pairs.
abbrev pub IsOfPairs : List (Value × Value) → Value → Type 0
IsOfPairs ps v = value_term v ≡ container map (pair_canons value_term value_term ps)

abbrev pub MeansPairs : Standing → Term → List (Value × Value) → Type 0
MeansPairs = MeansMap true ValueMeans ValueMeans (SameTree value_term values_are_trees)
