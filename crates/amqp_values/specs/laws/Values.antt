-- The terms of what values hold, and that the term of each value is a tree.
use Rattle.std.proofs.Common.{◌≡◌, map as map_list, refl, ap, ◌∙◌, Global, Vec}
use Rattle.std.specs.declared.boxed.Box.{Box}
use mathlib.Core.Former.{Count}
use Rattle.amqp_model.specs.Term.{list, map, array, container, described, more}
use Rattle.amqp_model.specs.Items.{terms_of}
use Rattle.amqp_codec.specs.Pairs.{pair_canons}
use Rattle.amqp_codec.specs.laws.Tree.{IsTree, AreTrees}
use Rattle.amqp_lookahead.specs.Members.{descriptor_of}
use Rattle.amqp_containers.specs.declared.array.Array.{Array}
use Rattle.amqp_described.specs.declared.described.Described.{Described}
use Rattle.amqp_values.specs.declared.map.ValueMap.{ValueMap, out-ValueMap, items-the_row-ValueMap-0-2, items_hidden-the_row-ValueMap-0-2-1}
use Rattle.amqp_values.specs.declared.value.Value.{Value, Null, Bool, Ubyte, Ushort, Uint, Ulong, Byte, Short, Int, Long, Decimal32}
use Rattle.amqp_values.specs.declared.value.Value.{Decimal64, Decimal128, Char, Timestamp, Uuid, Binary, String, Symbol, Described', List'}
use Rattle.amqp_values.specs.declared.value.Value.{Map', Array', Row_of-Value, end_of-Value, more_of-Value, Row_of-ValueMap-0-2}
use Rattle.amqp_values.specs.declared.value.Value.{end_of-ValueMap-0-2, more_of-ValueMap-0-2, items-the_row-Value}
use Rattle.amqp_values.specs.declared.value.Value.{items_hidden-the_row-Value-0, List as ListOf, Map as MapOf, Array as ArrayOf}
use Rattle.amqp_values.specs.declared.value.Value.{Described as DescribedOf}
use Rattle.amqp_values.specs.Values.{value_term, row_terms, pair_terms, pairs_of}

pub row_is : (n : Count) (row : Row_of-Value n) → row_terms row ≡ terms_of (map_list value_term (items-the_row-Value n row))
row_is n end_of-Value = refl
row_is n (more_of-Value v rest) = ap (more (value_term v)) (row_is _ rest)

pub pairs_is : (n : Count) (row : Row_of-ValueMap-0-2 n)
    → pair_terms row ≡ pair_canons value_term value_term (items-the_row-ValueMap-0-2 n row)
pairs_is n end_of-ValueMap-0-2 = refl
pairs_is n (more_of-ValueMap-0-2 k v rest) = ap (λ ts. more (value_term k) (more (value_term v) ts)) (pairs_is _ rest)

abbrev row_of : Value → (n : Count) × Row_of-Value n
row_of (List' shape row) = (_, row)
row_of (Array' shape row) = (_, row)
row_of _ = (_, end_of-Value)

-- the term of a list is that of its items
pub list_is : (v : Vec Value Global) → value_term (ListOf v) ≡ container list (terms_of (map_list value_term v.items))
list_is v =
    let row = row_of (ListOf v) in
    ap (container list) (row_is row.0 row.1 ∙ ap (λ vs. terms_of (map_list value_term vs)) (items_hidden-the_row-Value-0 v))

pub array_is : (v : Array Value) → value_term (ArrayOf v) ≡ container array (terms_of (map_list value_term v.0.items))
array_is v =
    let row = row_of (ArrayOf v) in
    ap (container array) (row_is row.0 row.1 ∙ ap (λ vs. terms_of (map_list value_term vs)) (items_hidden-the_row-Value-0 v.0))

pub described_is : (v : Box (Described Value) Global)
    → value_term (DescribedOf v) ≡ described (descriptor_of v.value.descriptor) (value_term v.value.value)
described_is v = refl

abbrev pairs_in : Value → (n : Count) × Row_of-ValueMap-0-2 n
pairs_in (Map' shape row) = (_, row)
pairs_in _ = (_, end_of-ValueMap-0-2)

pub map_is : (m : ValueMap) → value_term (MapOf m) ≡ container map (pair_canons value_term value_term (pairs_of m))
map_is m =
    let row = pairs_in (MapOf m) in
    ap (container map) (pairs_is row.0 row.1
    ∙ ap (pair_canons value_term value_term) (items_hidden-the_row-ValueMap-0-2-1 (out-ValueMap m).0))

mutual
  pub values_are_trees : (v : Value) → IsTree (value_term v)
  values_are_trees Null = tt
  values_are_trees (Bool b) = tt
  values_are_trees (Ubyte n) = tt
  values_are_trees (Ushort n) = tt
  values_are_trees (Uint n) = tt
  values_are_trees (Ulong n) = tt
  values_are_trees (Byte z) = tt
  values_are_trees (Short z) = tt
  values_are_trees (Int z) = tt
  values_are_trees (Long z) = tt
  values_are_trees (Decimal32 v) = tt
  values_are_trees (Decimal64 v) = tt
  values_are_trees (Decimal128 v) = tt
  values_are_trees (Char n) = tt
  values_are_trees (Timestamp v) = tt
  values_are_trees (Uuid v) = tt
  values_are_trees (Binary v) = tt
  values_are_trees (String s) = tt
  values_are_trees (Symbol v) = tt
  values_are_trees (Described' p d v) = values_are_trees v
  values_are_trees (List' shape vs) = rows_are_trees vs
  values_are_trees (Map' shape ps) = pairs_are_trees ps
  values_are_trees (Array' shape vs) = rows_are_trees vs

  rows_are_trees : {m : _} (vs : Row_of-Value m) → AreTrees (row_terms vs)
  rows_are_trees end_of-Value = tt
  rows_are_trees (more_of-Value v rest) = (values_are_trees v, rows_are_trees rest)

  pairs_are_trees : {m : _} (ps : Row_of-ValueMap-0-2 m) → AreTrees (pair_terms ps)
  pairs_are_trees end_of-ValueMap-0-2 = tt
  pairs_are_trees (more_of-ValueMap-0-2 k v rest) = (values_are_trees k, (values_are_trees v, pairs_are_trees rest))
