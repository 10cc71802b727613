-- Values whose numbers and texts are of their types (Part 1, section 1.6).
use Rattle.std.proofs.Common.{List, [], ◌∷◌, map as map_list, All, sym, subst, Global, Vec}
use Rattle.std.proofs.lemmas.List.Elements.{All-head, All-tail}
use Rattle.amqp_model.specs.Items.{terms_of}
use Rattle.amqp_model.specs.Ranges.{Everywhere, EverywhereIn, IsValue}
use Rattle.amqp_codec.specs.laws.Pair.{pairs_even}
use Rattle.amqp_containers.specs.declared.array.Array.{Array}
use Rattle.amqp_values.specs.declared.map.ValueMap.{ValueMap}
use Rattle.amqp_values.specs.declared.value.Value.{Value, List as ListOf, Map as MapOf, Array as ArrayOf}
use Rattle.amqp_values.specs.Equality.{turn_terms}
use Rattle.amqp_values.specs.Values.{value_term, pairs_of}
use Rattle.amqp_values.specs.laws.Values.{list_is, array_is, map_is}

-- Everything in the value is of its type.
abbrev pub IsTyped : Value → Type 0
IsTyped v = Everywhere IsValue (value_term v)

-- A key and its value are.
abbrev pub IsTypedPair : Value × Value → Type 0
IsTypedPair p = IsTyped p.0 × IsTyped p.1

each_typed : (vs : List Value) → All IsTyped vs → EverywhereIn IsValue (terms_of (map_list value_term vs))
each_typed [] h = tt
each_typed (v ∷ vs) h = (All-head IsTyped v vs h, each_typed vs (All-tail IsTyped v vs h))

turns_typed : (ps : List (Value × Value)) → All IsTypedPair ps → EverywhereIn IsValue (turn_terms ps)
turns_typed [] h = tt
turns_typed (p ∷ ps) h =
    let i = All-head IsTypedPair p ps h in
    (i.0, (i.1, turns_typed ps (All-tail IsTypedPair p ps h)))

pub list_typed : (v : Vec Value Global) → All IsTyped v.items → IsTyped (ListOf v)
list_typed v h = subst (Everywhere IsValue) (sym (list_is v)) (tt, each_typed v.items h)

pub array_typed : (v : Array Value) → All IsTyped v.0.items → IsTyped (ArrayOf v)
array_typed v h = subst (Everywhere IsValue) (sym (array_is v)) (tt, each_typed v.0.items h)

pub map_typed : (m : ValueMap) → All IsTypedPair (pairs_of m) → IsTyped (MapOf m)
map_typed m h =
    subst (Everywhere IsValue) (sym (map_is m)) (pairs_even value_term value_term (pairs_of m), turns_typed (pairs_of m) h)
