use Rattle.amqp_model.proofs.ItemCounts.{fits_within, fits_with_null, fits_without_null, fits_required}
use Rattle.amqp_model.proofs.tables.missing_items.Goals as goal

pub returns : goal.returns
returns g c =
    let fields = g.C.HasTable.table.fields in
    record {
      no_surplus = fits_within fields;
      as_null = λ ts v l. (fits_without_null fields ts v, fits_with_null fields ts v l);
      required = fits_required fields;
    }
