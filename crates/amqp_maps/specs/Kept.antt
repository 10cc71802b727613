-- The pairs of a map as they are kept: in a row, or in a table.
use Rattle.std.specs.Prelude.{Bool, ◌≤◌, List, length}
use Rattle.amqp_maps.specs.declared.pairs.Pairs.{Pairs}
use Rattle.amqp_maps.specs.declared.pairs.Pairs.TheVariants.{Row, Table}
use Rattle.amqp_maps.specs.Pairs.{HaveDistinctKeys}

module _ {K V : Type 0} where
  -- In their order.
  abbrev pub pairs_of : Pairs K V → List (K × V)
  pairs_of (Row row hashing) = row.items
  pairs_of (Table table) = table.value.entries

  -- There are at most eight in a row.
  abbrev pub HasFew : Pairs K V → Type 0
  HasFew (Row row hashing) = length row.items ≤ 8
  HasFew (Table table) = Unit {0}

  -- So are a map's pairs.
  pub record IsSound (eq : K → K → Bool) (pairs : Pairs K V) : Type 0 where
    pub distinct : HaveDistinctKeys eq (pairs_of pairs)
    pub few : HasFew pairs
