-- What a simple value of one kind holds, taken out of it.
use Rattle.std.specs.Prelude.{◌≡◌, Result, Ok, Err}
use Rattle.amqp_simple_values.specs.declared.simple.SimpleValue.{SimpleValue}

-- The answer is what a value of the kind holds. A value of another kind is given back.
abbrev pub TakesOut : {T : Type 0} → (T → SimpleValue) → SimpleValue → Result T SimpleValue → Type 0
TakesOut make v (Ok x) = v ≡ make x
TakesOut {T} make v (Err w) = (w ≡ v) × ((x : T) → v ≡ make x → ⊥)
