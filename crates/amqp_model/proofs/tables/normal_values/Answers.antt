use Rattle.amqp_model.specs.FieldType.{normal}
use Rattle.amqp_model.specs.laws.Field.{normal_canonical_items}
use Rattle.amqp_model.specs.laws.Composite.{composite}
use Rattle.amqp_model.proofs.tables.normal_values.Goals as goal

pub returns : goal.returns
returns g c =
    let table = g.C.HasTable.table in
    record {
      items = λ v. normal_canonical_items table.fields v (normal table.norm v) (table.norm_is v);
      once = (composite table).meaning.norm_norm;
    }
