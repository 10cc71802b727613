use Rattle.amqp_model.specs.laws.Field.{fits_one}
use Rattle.amqp_model.proofs.tables.one_value.Goals as goal

pub returns : goal.returns
returns g c = fits_one g.C.HasTable.table.fields
