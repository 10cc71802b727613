use Rattle.amqp_model.specs.laws.Field.{same_fields_refl, same_fields_sym, same_fields_trans, same_canonical_items, same_fit}
use Rattle.amqp_model.proofs.tables.same_values.Goals as goal

pub returns : goal.returns
returns g c =
    let fields = g.C.HasTable.table.fields in
    record {
      reflexive = same_fields_refl fields;
      symmetric = same_fields_sym fields;
      transitive = same_fields_trans fields;
      items = same_canonical_items fields;
      fits = same_fit fields;
    }
