-- What a hasher is fed of values of any kind and of maps of them: of equal ones the same.
use Rattle.std.proofs.Common.{◌≡◌, true, ◌++◌, ap}
use Rattle.std.specs.Hash as fed
use Rattle.amqp_model.specs.Term.{Term, Terms, leaf, container, described, kept, barred, none, more}
use Rattle.amqp_values.specs.declared.map.ValueMap.{ValueMap}
use Rattle.amqp_values.specs.declared.value.Value.{Value}
use Rattle.amqp_values.specs.Values.{value_term, pairs_of}
use Rattle.amqp_values.specs.Equality.{value_eq, turn_terms, map_eq}
use Rattle.amqp_values.specs.laws.Equality.{values_decide, maps_decide}
use Rattle.amqp_values.specs.Labels.{label_of, label_fed}

-- A term's label, and then the terms that it holds: those of a container one after another, and then a byte that is the place of no kind.
abbrev mutual
  pub fed_term : Term → fed.HashWrites
  fed_term (leaf p) = label_fed (label_of (leaf p))
  fed_term (container k ts) = label_fed (label_of (container k ts)) ++ fed_terms ts
  fed_term (described d t) = label_fed (label_of (described d t)) ++ fed_term t
  fed_term (kept b) = label_fed (label_of (kept b))
  fed_term (barred r) = label_fed (label_of (barred r))

  pub fed_terms : Terms → fed.HashWrites
  fed_terms none = fed.u8 255
  fed_terms (more t ts) = fed_term t ++ fed_terms ts

abbrev pub value_fed : Value → fed.HashWrites
value_fed v = fed_term (value_term v)

pub values_alike : (v w : Value) → value_eq v w ≡ true → value_fed v ≡ value_fed w
values_alike v w e = ap fed_term ((values_decide v w).0 e)

-- Of a map its keys and values in turn, and then that byte.
abbrev pub map_fed : ValueMap → fed.HashWrites
map_fed m = fed_terms (turn_terms (pairs_of m))

pub maps_alike : (m n : ValueMap) → map_eq m n ≡ true → map_fed m ≡ map_fed n
maps_alike m n e = ap fed_terms ((maps_decide m n).0 e)
