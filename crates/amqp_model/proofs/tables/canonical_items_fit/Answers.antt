use Rattle.amqp_model.specs.laws.Field.{canonical_fit}
use Rattle.amqp_model.specs.FieldType.{normal}
use Rattle.amqp_model.proofs.tables.canonical_items_fit.Goals as goal

pub returns : goal.returns
returns g c = λ v i f. canonical_fit g.C.HasTable.table.fields v (normal g.C.HasTable.table.norm v) i f (g.C.HasTable.table.norm_is v)
