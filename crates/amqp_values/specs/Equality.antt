-- Values are equal exactly if their terms are.
use Rattle.std.proofs.Common.{Bool, List}
use Rattle.amqp_model.specs.Term.{Terms}
use Rattle.amqp_codec.specs.EqualKeys.{same_term, same_terms}
use Rattle.amqp_codec.specs.Pairs.{pair_canons}
use Rattle.amqp_values.specs.declared.map.ValueMap.{ValueMap}
use Rattle.amqp_values.specs.declared.value.Value.{Value}
use Rattle.amqp_values.specs.Values.{value_term, pairs_of}

-- Two values are equal.
abbrev pub value_eq : Value → Value → Bool
value_eq v w = same_term (value_term v) (value_term w)

-- The terms of keys and values in turn.
abbrev pub turn_terms : List (Value × Value) → Terms
turn_terms ps = pair_canons value_term value_term ps

-- Two maps are equal: their pairs are, in their order.
abbrev pub map_eq : ValueMap → ValueMap → Bool
map_eq m n = same_terms (turn_terms (pairs_of m)) (turn_terms (pairs_of n))
