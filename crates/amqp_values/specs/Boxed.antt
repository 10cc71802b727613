-- Values that hold what was put in a box.
use Rattle.std.proofs.Common.{◌≡◌, Global}
use Rattle.std.specs.declared.boxed.Box.{Box}
use Rattle.amqp_described.specs.declared.described.Described.{Described}
use Rattle.amqp_values.specs.declared.value.Value.{Value, Described as DescribedOf}

-- The value holds this descriptor and this value, in a box.
abbrev pub IsBoxed : Described Value → Value → Type 0
IsBoxed d v = (b : Box (Described Value) Global) × (v ≡ DescribedOf b) × (b.value ≡ d)
