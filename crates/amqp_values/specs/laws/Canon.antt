-- Lemmas of canonical terms of values.
use Rattle.std.proofs.Common.{◌≡◌, false, List, [], ◌∷◌, map as map_list, cond, refl, ap, ◌∙◌, sym, Global, Vec}
use Rattle.std.specs.List.{flat_map}
use Rattle.std.proofs.lemmas.List.Concat.{flat_map-cons}
use Rattle.std.specs.declared.boxed.Box.{Box}
use Rattle.amqp_model.specs.Term.{duplicate_key, list, map, array, container, described, barred, more}
use Rattle.amqp_model.specs.Items.{terms_of, is_null}
use Rattle.amqp_lookahead.specs.Members.{descriptor_of}
use Rattle.amqp_codec.specs.EqualKeys.{barred_maps, all_barred_maps, has_equal_keys}
use Rattle.amqp_codec.specs.laws.EqualKeys.{maps_plain, maps_valued, maps_null}
use Rattle.amqp_codec.specs.Agreement.{plain_proper}
use Rattle.amqp_codec.specs.Written.{AreProper}
use Rattle.amqp_containers.specs.declared.array.Array.{Array}
use Rattle.amqp_described.specs.declared.described.Described.{Described}
use Rattle.amqp_values.specs.declared.map.ValueMap.{ValueMap}
use Rattle.amqp_values.specs.declared.value.Value.{Value, List as ListOf, Map as MapOf, Array as ArrayOf, Described as DescribedOf, Null}
use Rattle.amqp_values.specs.declared.value.Value.{Bool, Ubyte, Ushort, Uint, Ulong, Byte, Short, Int, Long, Decimal32, Decimal64}
use Rattle.amqp_values.specs.declared.value.Value.{Decimal128, Char, Timestamp, Uuid, Binary, String, Symbol, Described', List', Map'}
use Rattle.amqp_values.specs.declared.value.Value.{Array'}
use Rattle.amqp_values.specs.Equality.{turn_terms}
use Rattle.amqp_values.specs.Typing.{IsTyped}
use Rattle.amqp_values.specs.Values.{value_term, pairs_of}
use Rattle.amqp_values.specs.laws.Values.{list_is, array_is, described_is, map_is, values_are_trees}
use Rattle.amqp_values.specs.Canon.{value_canon, value_canons, pair_canon}

each_barred : (vs : List Value) → all_barred_maps (terms_of (map_list value_term vs)) ≡ terms_of (flat_map value_canons vs)
each_barred [] = refl
each_barred (v ∷ vs) = ap (more (value_canon v)) (each_barred vs) ∙ ap terms_of (sym (flat_map-cons value_canons v vs))

turns_barred : (ps : List (Value × Value)) → all_barred_maps (turn_terms ps) ≡ terms_of (flat_map pair_canon ps)
turns_barred [] = refl
turns_barred (p ∷ ps) =
    ap (λ ts. more (value_canon p.0) (more (value_canon p.1) ts)) (turns_barred ps)
    ∙ ap terms_of (sym (flat_map-cons pair_canon p ps))

pub list_canon : (v : Vec Value Global) → value_canon (ListOf v) ≡ container list (terms_of (flat_map value_canons v.items))
list_canon v = ap barred_maps (list_is v) ∙ ap (container list) (each_barred v.items)

pub array_canon : (v : Array Value) → value_canon (ArrayOf v) ≡ container array (terms_of (flat_map value_canons v.0.items))
array_canon v = ap barred_maps (array_is v) ∙ ap (container array) (each_barred v.0.items)

pub described_canon : (v : Box (Described Value) Global)
    → value_canon (DescribedOf v) ≡ described (descriptor_of v.value.descriptor) (value_canon v.value.value)
described_canon v = ap barred_maps (described_is v)

pub map_canon : (m : ValueMap)
    → value_canon (MapOf m)
    ≡ cond (has_equal_keys (turn_terms (pairs_of m))) (barred duplicate_key) (container map (terms_of (flat_map pair_canon (pairs_of m))))
map_canon m =
    ap barred_maps (map_is m)
    ∙ ap (λ ts. cond (has_equal_keys (turn_terms (pairs_of m))) (barred duplicate_key) (container map ts)) (turns_barred (pairs_of m))

pub value_proper : (v : Value) → IsTyped v → AreProper (value_canon v ∷ [])
value_proper v i =
    (plain_proper (value_canon v) (maps_plain (value_term v) (values_are_trees v)) (maps_valued (value_term v) i), tt)

term_not_null : (v : Value) → (v ≡ Null → ⊥) → is_null (value_term v) ≡ false
term_not_null Null n = absurd (n refl)
term_not_null (Bool b) n = refl
term_not_null (Ubyte x) n = refl
term_not_null (Ushort x) n = refl
term_not_null (Uint x) n = refl
term_not_null (Ulong x) n = refl
term_not_null (Byte z) n = refl
term_not_null (Short z) n = refl
term_not_null (Int z) n = refl
term_not_null (Long z) n = refl
term_not_null (Decimal32 d) n = refl
term_not_null (Decimal64 d) n = refl
term_not_null (Decimal128 d) n = refl
term_not_null (Char x) n = refl
term_not_null (Timestamp t) n = refl
term_not_null (Uuid u) n = refl
term_not_null (Binary b) n = refl
term_not_null (String s) n = refl
term_not_null (Symbol s) n = refl
term_not_null (Described' p d v) n = refl
term_not_null (List' shape vs) n = refl
term_not_null (Map' shape ps) n = refl
term_not_null (Array' shape vs) n = refl

-- No value but null is written as null.
pub not_null : (v : Value) → (v ≡ Null → ⊥) → is_null (value_canon v) ≡ false
not_null v n = maps_null (value_term v) ∙ term_not_null v n

pub map_not_null : (m : ValueMap) → is_null (value_canon (MapOf m)) ≡ false
map_not_null m = maps_null (value_term (MapOf m)) ∙ ap is_null (map_is m)
