-- Why a code is refused where a value of another kind must stand.
use Rattle.std.specs.Prelude.{ℕ, Bool, true, false, cond, eqb}
use Rattle.amqp_model.specs.Constructors.{Format, unknown, format}
use Rattle.amqp_wire.specs.declared.error.Error.{Error}
use Rattle.amqp_wire.specs.declared.error.Error.TheVariants.{UnknownCode, FloatCode, WrongType}

abbrev pub is_known : Format → Bool
is_known unknown = false
is_known _ = true

-- 0 begins a described value, and any other code that is known a constructor.
abbrev pub is_defined : ℕ → Bool
is_defined c = cond (eqb c 0) true (is_known (format c))

-- Part 1, sections 1.2, 1.6.11 and 1.6.12: 0x72 and 0x82 are a float's and a double's; 0 begins a described value.
abbrev pub refusal_of : ℕ → Error
refusal_of c =
    cond (eqb c 0x72) (FloatCode c) (cond (eqb c 0x82) (FloatCode c)
    (cond (eqb c 0) (WrongType c) (cond (is_known (format c)) (WrongType c) (UnknownCode c))))
