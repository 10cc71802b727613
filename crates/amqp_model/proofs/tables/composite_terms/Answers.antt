use Rattle.std.specs.Prelude.{refl}
use Rattle.amqp_model.specs.laws.Composite.{composite}
use Rattle.amqp_model.proofs.tables.composite_terms.Goals as goal

pub returns : goal.returns
returns g c =
    let table = g.C.HasTable.table in
    let type = composite table in
    record {
      by_code = λ ts v. (λ m. m.1, λ h. (refl, h));
      by_name = λ ts v. (λ m. m.1, λ h. (refl, h));
      canonical = type.meaning.canon_means;
      one_value = type.meaning.one;
      never_null = type.never_null;
    }
