use Rattle.amqp_model.proofs.ItemCounts.{canonical_fewest}
use Rattle.amqp_model.proofs.tables.canonical_items_are_fewest.Goals as goal

pub returns : goal.returns
returns g c = canonical_fewest g.C.HasTable.table.fields
