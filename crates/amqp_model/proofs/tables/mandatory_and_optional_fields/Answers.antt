use Rattle.std.proofs.Common.{refl}
use Rattle.amqp_model.proofs.tables.mandatory_and_optional_fields.Goals as goal

pub returns : goal.returns
returns g c =
    let type = g.T.HasFieldType.field_type in
    record {
      mandatory = λ t v. (λ m. (type.never_null t v m, m), λ h. h.1);
      null = λ t. (λ h. h, λ h. h);
      value = λ t v. (λ m. m, λ m. m);
      canonical_null = refl;
    }
