-- Default values of fields.
use Rattle.std.proofs.Common.{◌≡◌, Bool, true, false, not, refl}
use Rattle.amqp_model.specs.FieldRules.{DefaultValue}
use Rattle.amqp_codec.specs.FieldTypes.{field_type}
use Rattle.amqp_sums.specs.Types.{boolean_type}

pub not_sound : (v : Bool) → not v ≡ true → v ≡ false
not_sound true e = cc
not_sound false e = refl

-- the default of a boolean field
abbrev pub false_by_default : DefaultValue (field_type boolean_type refl refl).meaning
false_by_default = record {
  value = false;
  test = not;
  sound = not_sound;
  complete = λ v e. rw e refl;
  test_normal = λ v. refl;
  is_value = tt;
}
