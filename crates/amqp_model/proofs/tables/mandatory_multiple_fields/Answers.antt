use Rattle.std.proofs.Common.{map, ap}
use Rattle.amqp_model.specs.Term.{empty_multiple, barred}
use Rattle.amqp_model.specs.FieldRules.{array_or}
use Rattle.amqp_model.specs.laws.Multiple.{some_null}
use Rattle.amqp_model.proofs.tables.mandatory_multiple_fields.Goals as goal

pub returns : goal.returns
returns g c =
    let item = g.V.HasItems.item in
    let held = g.V.HasItems.array in
    record {
      same_terms = λ t v. (λ h. h, λ h. h);
      null = λ t v n h. some_null item.meaning held t v n h;
      no_items = λ v h. h;
      canonical_one = λ x v e. ap (λ xs. array_or (barred empty_multiple) (map item.meaning.canon xs)) e;
      canonical_none = λ v e. ap (λ xs. array_or (barred empty_multiple) (map item.meaning.canon xs)) e;
    }
