use Rattle.std.proofs.Common.{map, refl, ap, subst, sym}
use Rattle.amqp_model.specs.Term.{null, leaf}
use Rattle.amqp_model.specs.laws.Item.{several_null}
use Rattle.amqp_model.proofs.OneItem.{several_alone}
use Rattle.amqp_model.specs.FieldRules.{SomeMean, array_or}
use Rattle.amqp_model.proofs.tables.multiple_fields.Goals as goal

pub returns : goal.returns
returns g c =
    let item = g.V.HasItems.item in
    let held = g.V.HasItems.array in
    record {
      null = several_null;
      no_items = refl;
      items = λ t ts v h. h;
      one_item = λ t x v n m e. subst (λ ts. SomeMean item.meaning.means ts (held.contents v))
          (sym (several_alone t n (item.never_null t x m))) (rw e (m, tt));
      canonical_one = λ x v e. ap (λ xs. array_or (leaf null) (map item.meaning.canon xs)) e;
      canonical_none = λ v e. ap (λ xs. array_or (leaf null) (map item.meaning.canon xs)) e;
    }
