-- What a value of any kind is written as (Part 1, section 1.6): its term, in which a map with equal keys is refused.
use Rattle.std.proofs.Common.{List, [], ◌∷◌}
use Rattle.amqp_model.specs.Term.{Term}
use Rattle.amqp_codec.specs.EqualKeys.{barred_maps}
use Rattle.amqp_values.specs.declared.value.Value.{Value}
use Rattle.amqp_values.specs.Values.{value_term}

-- The canonical term of a value.
abbrev pub value_canon : Value → Term
value_canon v = barred_maps (value_term v)

abbrev pub value_canons : Value → List Term
value_canons v = value_canon v ∷ []

-- The canonical terms of a key and its value.
abbrev pub pair_canon : Value × Value → List Term
pair_canon p = value_canon p.0 ∷ value_canon p.1 ∷ []
