-- How a map in the order of its keys is read, and what ties it to its writing (Part 1, section 1.6.23).
use Rattle.std.proofs.Common.{◌≡◌, ℕ, Bool, subst, Ordering}
use Rattle.std.specs.Bool.{Decides}
use Rattle.std.specs.BTreeMap.{BTreeMap}
use Rattle.std.specs.Cmp.{IsTotalOrder}
use Rattle.std.specs.List.Sorted.{IsStrictlySortedBy}
use Rattle.std.specs.Ordering.{is_eq}
use Rattle.std.specs.Prelude.{List}
use Rattle.amqp_decoder.specs.State.{State}
use Rattle.amqp_codec.specs.TermType.{TermType}
use Rattle.amqp_codec.specs.Keys.{IsKey}
use Rattle.amqp_codec.specs.KeyOrder.{in_order, IsOrderOf}
use Rattle.amqp_codec.specs.BTreeMapType.{btree_map_of}
use Rattle.amqp_codec.specs.MapReading.{ReadsPairsRow}
use Rattle.amqp_codec.specs.MapWriting.{map_writing}
use Rattle.amqp_codec.specs.laws.MapWriting.{canons_agree, pairs_to, pairs_from, own_keys, any_keys}
use Rattle.amqp_codec.specs.Written.{Writing}
use Rattle.amqp_codec.specs.Agreement.{Agreement, via_writing}

-- So many pairs were read, no two of which have the same key, and the map has them in the order of their keys.
pub record ReadsInOrder {K V : Type 0} (key : TermType K) (value : TermType V) (cmp : K → K → Ordering) (n : ℕ) (st : State)
    (m : BTreeMap K V) (b : State) : Type 0 where
  pub pairs : List (K × V)
  pub row : ReadsPairsRow key value n st pairs b
  pub sorted : m.entries ≡ in_order cmp pairs

-- An order that ties what is equal orders keys.
module _ {K : Type 0} {key : TermType K} {eq : K → K → Bool} {cmp : K → K → Ordering} (is_key : IsKey key eq) (total : IsTotalOrder cmp)
    (ties : (k l : K) → eq k l ≡ is_eq (cmp k l)) where
  pub key_by_order : IsKey key (λ k l. is_eq (cmp k l))
  key_by_order = record {
    decides = λ k l. subst (λ b. Decides b (key.same k l)) (ties k l) (is_key.decides k l);
    own = is_key.own;
  }

  pub order_of_keys : IsOrderOf cmp key.same
  order_of_keys = record { total = total; ties = key_by_order.decides }

-- The tie of a map in the order of its keys.
module _ {K V : Type 0} {key : TermType K} {value : TermType V} {x : Writing K} {y : Writing V} (a : Agreement key x)
    (b : Agreement value y) where
  pub btree_map_agreement : {eq : K → K → Bool} {cmp : K → K → Ordering} (is_key : IsKey key eq) → IsTotalOrder cmp
      → ((k l : K) → eq k l ≡ is_eq (cmp k l))
      → Agreement (btree_map_of key value cmp) (via_writing (λ m. m.entries) (map_writing x y (IsStrictlySortedBy cmp)))
  btree_map_agreement is_key total ties = record {
    canons_is = λ m. canons_agree a b m.entries;
    value_to = λ m i. (
      own_keys key value.is_value is_key.own m.entries (pairs_to a b m.entries i.0),
      i.1,
      order_of_keys is_key total ties,
    );
    value_from = λ m i. (pairs_from a b m.entries (any_keys key value.is_value m.entries i.0), i.1);
  }
