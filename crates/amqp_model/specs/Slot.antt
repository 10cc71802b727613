-- The rules of fields.
use Rattle.std.specs.Prelude.{◌≡◌, Bool, true, false, Option, refl}
use Rattle.amqp_model.specs.Term.{null, Term, leaf}
use Rattle.amqp_model.specs.Items.{is_null}
use Rattle.amqp_model.specs.laws.Item.{clash}
use Rattle.amqp_model.specs.FieldType.{Meaning, FieldType}
use Rattle.amqp_model.specs.declared.tables.FieldRule.{FieldRule}
use Rattle.amqp_model.specs.declared.tables.FieldRule.TheVariants.{Mandatory, Optional, Default, Multiple, MandatoryMultiple}
use Rattle.amqp_model.specs.FieldRules.{DefaultValue, ArrayOf}
use Rattle.amqp_model.specs.laws.Option.{option_meaning, option_null_alike, option_null_canon}
use Rattle.amqp_model.specs.laws.Default.{default_meaning, default_null_alike, default_null_canon}
use Rattle.amqp_model.specs.laws.Multiple.{multiple_meaning, multiple_null_alike, multiple_null_canon, mandatory_multiple_meaning, some_null}

-- Null doesn't fit a field of the rule.
abbrev pub is_required : FieldRule → Bool
is_required Mandatory = true
is_required Optional = false
is_required Default = false
is_required Multiple = false
is_required MandatoryMultiple = true

-- A field: what terms mean in it, null among them.
pub record Slot (T : Type 0) : Type 1 where
  pub rule : FieldRule
  pub meaning : Meaning T
  pub required : (v : T) → is_required rule ≡ true → meaning.means (leaf null) v → ⊥
  -- each null means what null means, and is canonical for it
  pub null_alike : (t : Term) (v : T) → is_null t ≡ true → meaning.means t v → meaning.means (leaf null) v
  pub null_canon : (v : T) → meaning.means (leaf null) v → is_null (meaning.canon v) ≡ true

abbrev pub mandatory : {T : Type 0} → FieldType T → Slot T
mandatory u = record {
  rule = Mandatory;
  meaning = u.meaning;
  required = λ v r m. clash refl (u.never_null (leaf null) v m);
  null_alike = λ t v n m. absurd (clash n (u.never_null t v m));
  null_canon = λ v m. absurd (clash refl (u.never_null (leaf null) v m));
}

abbrev pub optional : {T : Type 0} → FieldType T → Slot (Option T)
optional u = record {
  rule = Optional;
  meaning = option_meaning u.meaning u.never_null;
  required = λ v r m. clash r refl;
  null_alike = option_null_alike u.meaning u.never_null;
  null_canon = option_null_canon u.meaning u.never_null;
}

abbrev pub default : {T : Type 0} (u : FieldType T) → DefaultValue u.meaning → Slot T
default u d = record {
  rule = Default;
  meaning = default_meaning u.meaning u.never_null d;
  required = λ v r m. clash r refl;
  null_alike = default_null_alike u.meaning u.never_null d;
  null_canon = default_null_canon u.meaning u.never_null d;
}

abbrev pub multiple : {A V : Type 0} (u : FieldType A) → ArrayOf u.meaning V → Slot (Option V)
multiple u c = record {
  rule = Multiple;
  meaning = multiple_meaning u.meaning c;
  required = λ v r m. clash r refl;
  null_alike = multiple_null_alike u.meaning c;
  null_canon = multiple_null_canon u.meaning c;
}

abbrev pub mandatory_multiple : {A V : Type 0} (u : FieldType A) → ArrayOf u.meaning V → Slot V
mandatory_multiple u c = record {
  rule = MandatoryMultiple;
  meaning = mandatory_multiple_meaning u.meaning c;
  required = λ v r m. m;
  null_alike = λ t v n m. absurd (some_null u.meaning c t v n m);
  null_canon = λ v m. absurd m;
}
