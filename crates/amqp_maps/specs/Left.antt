-- What an iterator over a map has left, of a row or of a table.
use Rattle.std.specs.Prelude.{List}
use Rattle.std.specs.Slice.Iter.{iter_rest}
use Rattle.std.specs.Vec.Iter.{into_iter_items}
use Rattle.amqp_maps.specs.declared.iterators.Lent.{Lent}
use Rattle.amqp_maps.specs.declared.iterators.Lent.TheVariants.{Row, Table}
use Rattle.amqp_maps.specs.declared.iterators.Owned.{Owned}
use Rattle.amqp_maps.specs.declared.iterators.Owned.TheVariants.{Row as OwnedRow, Table as OwnedTable}

module _ {K V : Type 0} where
  abbrev pub lent_pairs : Lent K V → List (K × V)
  lent_pairs (Row rest) = iter_rest rest
  lent_pairs (Table rest) = rest

  abbrev pub owned_pairs : Owned K V → List (K × V)
  owned_pairs (OwnedRow rest) = into_iter_items rest
  owned_pairs (OwnedTable rest) = rest
