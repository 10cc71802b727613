-- Maps as lists of pairs: keys that are apart, and what iterators have left.
use Rattle.std.specs.Prelude.{◌≡◌, false, List}
use Rattle.std.specs.Map.{values_of}
use Rattle.std.specs.Slice.Iter.{iter_rest}
use Rattle.amqp_codec.specs.EqualKeys.{has_equal_keys}
use Rattle.amqp_values.specs.declared.value.Value.{Value}
use Rattle.amqp_values.specs.declared.map_iter.ValueMapIter.{ValueMapIter}
use Rattle.amqp_values.specs.declared.map_iter.ValueMapValues.{ValueMapValues}
use Rattle.amqp_values.specs.Equality.{turn_terms}

-- No two of the pairs have equal keys.
abbrev pub HaveDistinctKeys : List (Value × Value) → Type 0
HaveDistinctKeys ps = has_equal_keys (turn_terms ps) ≡ false

-- The pairs that are left.
abbrev pub pairs_left : ValueMapIter → List (Value × Value)
pairs_left i = iter_rest i.pairs

-- The values that are left.
abbrev pub values_left : ValueMapValues → List Value
values_left i = values_of (pairs_left i.pairs)
