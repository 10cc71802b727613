use Rattle.std.proofs.Common.{◌≡◌, ◌++◌, ◌<◌, length}
use Rattle.std.specs.Vec.Iter.{into_iter_items}
use Rattle.indexmap.specs.IndexMap.{spare}
use Rattle.amqp_maps.proofs.pairs.fill.Given as goal

-- the pairs in the table and those that are left are the row, and the table has room for more than are left
abbrev pub invariant-loop-key : goal.invariant-loop-key
invariant-loop-key g l = record {
  pairs : l.table.entries ++ into_iter_items l.key-iterator ≡ l.fn.row.items;
  room : length (into_iter_items l.key-iterator) < spare l.table;
}
