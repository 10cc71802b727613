-- The table of errors (Part 2, section 2.8.14).
use Rattle.std.specs.Prelude.{None}
use Rattle.amqp_sums.specs.Types.{codes, refl, by_norm, string_type, boxed, mandatory, optional, none, field, ◌▸◌, Table}
use Rattle.amqp_errors.specs.FieldsType.{fields_type}
use Rattle.amqp_errors.specs.Conditions.{condition_type, norm_condition}
use Rattle.amqp_errors.specs.declared.error_condition.ErrorCondition.{ErrorCondition}
use Rattle.amqp_errors.specs.declared.error.Error.{Error}

-- An error that says its condition alone.
abbrev pub alone : ErrorCondition → Error
alone c = record { condition = c; description = None; info = None }

-- Its condition is the listed one of its text, if there is one.
abbrev pub norm_error : Error → Error
norm_error v = record v { condition = norm_condition v.condition }

-- Part 2, section 2.8.14
abbrev pub error : Table Error
error = record {
  code = 0x1d;
  name = codes "amqp:error:list";
  fields =
      field (λ v. v.condition) (mandatory condition_type refl refl)
      ▸ field (λ v. v.description) (optional string_type refl refl)
      ▸ field (λ v. v.info) (optional (boxed fields_type) refl refl)
      ▸ none;
  norm = by_norm norm_error;
  norm_is = λ v. (refl, (refl, (refl, tt)));
  is_small = refl;
}
