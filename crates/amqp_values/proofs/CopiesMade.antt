-- The terms of copies are those of what they were made of.
use Rattle.std.proofs.Common.{◌≡◌, List, [], ◌∷◌, map as each_of, refl, ap, ◌∙◌, sym, Global, Vec}
use Rattle.amqp_model.specs.Term.{list, map, array, Term, Terms, container, none, more}
use Rattle.amqp_model.specs.Items.{terms_of}
use Rattle.amqp_containers.specs.declared.array.Array.{Array}
use Rattle.amqp_values.specs.declared.map.ValueMap.{ValueMap}
use Rattle.amqp_values.specs.declared.value.Value.{Value, List as ListOf, Map as MapOf, Array as ArrayOf}
use Rattle.amqp_values.specs.Copies.{terms_of_pair}
use Rattle.amqp_values.specs.Equality.{turn_terms}
use Rattle.amqp_values.specs.Values.{value_term, pairs_of}
use Rattle.amqp_values.specs.laws.Values.{list_is, array_is, map_is}

-- the terms of keys and values in turn
abbrev in_turn : List (Term × Term) → Terms
in_turn [] = none
in_turn (p ∷ ps) = more p.0 (more p.1 (in_turn ps))

turns_are : (ps : List (Value × Value)) → turn_terms ps ≡ in_turn (each_of terms_of_pair ps)
turns_are [] = refl
turns_are (p ∷ ps) = ap (λ ts. more (value_term p.0) (more (value_term p.1) ts)) (turns_are ps)

pub pairs_copied : (ps qs : List (Value × Value)) → each_of terms_of_pair qs ≡ each_of terms_of_pair ps → turn_terms qs ≡ turn_terms ps
pairs_copied ps qs e = turns_are qs ∙ ap in_turn e ∙ sym (turns_are ps)

pub list_copied : (v w : Vec Value Global) → each_of value_term w.items ≡ each_of value_term v.items
    → value_term (ListOf w) ≡ value_term (ListOf v)
list_copied v w e = list_is w ∙ ap (λ ts. container list (terms_of ts)) e ∙ sym (list_is v)

pub array_copied : (v w : Array Value) → each_of value_term w.0.items ≡ each_of value_term v.0.items
    → value_term (ArrayOf w) ≡ value_term (ArrayOf v)
array_copied v w e = array_is w ∙ ap (λ ts. container array (terms_of ts)) e ∙ sym (array_is v)

pub map_copied : (m n : ValueMap) → each_of terms_of_pair (pairs_of n) ≡ each_of terms_of_pair (pairs_of m)
    → value_term (MapOf n) ≡ value_term (MapOf m)
map_copied m n e = map_is n ∙ ap (container map) (pairs_copied (pairs_of m) (pairs_of n) e) ∙ sym (map_is m)
