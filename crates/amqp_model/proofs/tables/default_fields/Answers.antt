use Rattle.std.proofs.Common.{◌≡◌, true, false, inl, inr, refl}
use Rattle.amqp_model.specs.Term.{Term, null, leaf}
use Rattle.amqp_model.specs.Items.{is_null}
use Rattle.amqp_model.specs.laws.Item.{clash}
use Rattle.amqp_model.specs.FieldType.{Meaning, NeverNull}
use Rattle.amqp_model.specs.FieldRules.{DefaultValue, DefaultMeans, default_canon}
use Rattle.amqp_model.proofs.tables.default_fields.Goals as goal

module _ {T : Type 0} (m : Meaning T) (never_null : NeverNull m) (d : DefaultValue m) where
  when_null : (t : Term) (v : T) → is_null t ≡ true → DefaultMeans m d t v → m.same v d.value
  when_null t v e (inl h) = absurd (clash e (never_null t v h))
  when_null t v e (inr h) = h.1

  otherwise : (t : Term) (v : T) → is_null t ≡ false → DefaultMeans m d t v → m.means t v
  otherwise t v e (inl h) = h
  otherwise t v e (inr h) = absurd (clash h.0 e)

  written_as_null : (v : T) → m.same v d.value → default_canon m d v ≡ leaf null
  written_as_null v s = rw (d.complete v s) refl

pub returns : goal.returns
returns g c =
    let type = g.T.HasDefault.field_type in
    let d = g.T.HasDefault.default_value in
    record {
      null = λ t v e. (when_null type.meaning type.never_null d t v e, λ s. inr (e, s));
      value = λ t v e. (otherwise type.meaning type.never_null d t v e, λ m. inl m);
      canonical_null = written_as_null type.meaning type.never_null d;
    }
