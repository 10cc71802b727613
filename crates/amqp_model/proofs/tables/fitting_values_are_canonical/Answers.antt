use Rattle.amqp_model.specs.FieldType.{normal}
use Rattle.amqp_model.specs.Fields.{canonical_items}
use Rattle.amqp_model.specs.laws.Field.{canonical_fit, same_fit, fitting_values, fitting_own, fitting_free}
use Rattle.amqp_model.proofs.tables.fitting_values_are_canonical.Goals as goal

pub returns : goal.returns
returns g c =
    let table = g.C.HasTable.table in
    record {
      values = fitting_values table.fields;
      normal = λ ts v h. fitting_own table.fields ts v (normal table.norm v) h (table.norm_is v);
      free = fitting_free table.fields;
      again = λ ts v h. same_fit table.fields (canonical_items table.fields v) (normal table.norm v) v
          (fitting_own table.fields ts v (normal table.norm v) h (table.norm_is v))
          (canonical_fit table.fields v (normal table.norm v) (fitting_values table.fields ts v h)
          (fitting_free table.fields ts v h) (table.norm_is v));
    }
