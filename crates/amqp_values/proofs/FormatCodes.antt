-- Both booleans have one code.
use Rattle.std.proofs.Common.{◌≡◌, Bool, true, false, refl}
use Rattle.amqp_values.specs.declared.value.Value.{Value, Bool as BoolOf}
use Rattle.amqp_values.specs.FormatCodes.{format_code}
use Rattle.amqp_values.specs.Values.{value_term}

pub boolean_code : (v : Value) (b : Bool) → v ≡ BoolOf b → 0x56 ≡ format_code (value_term v)
boolean_code v true e = rw e refl
boolean_code v false e = rw e refl
