-- Why no type or no limits are asked for is why a call over them fails.
use Rattle.std.proofs.Common.{◌⊎◌, ℕ, inl, inr}
use Rattle.amqp_wire.specs.declared.limits.Limits.{Limits}
use Rattle.amqp_wire.specs.declared.refusal.Refusal.{Refusal}
use Rattle.amqp_catalogue.specs.declared.type_name.TypeName.{TypeName}
use Rattle.amqp_c.specs.Rewriting.{Fails}
use Rattle.amqp_c.specs.declared.limits.GivenLimits.{GivenLimits}
use Rattle.amqp_c.specs.declared.outcome.Failure.{Failure}
use Rattle.amqp_c.specs.declared.outcome.Failure.TheVariants.{NoType, NoLimits, Failed}

pub refused : (number : ℕ) (given : GivenLimits) (Has : TypeName → Limits → Refusal → Type 0) (f : Failure)
    → Fails number given (λ _ _ _. ⊥) f → Fails number given Has f
refused number given Has NoType h = h
refused number given Has NoLimits h = h
refused number given Has (Failed r) (named, within, is, inl memory) = (named, within, is, inl memory)
refused number given Has (Failed r) (named, within, is, inr none) = absurd none
