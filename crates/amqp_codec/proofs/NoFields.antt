-- What follows where a composite has no fields.
use Rattle.std.proofs.Common.{◌≡◌, ℕ, ◌<◌, [], length, refl, arith}
use Rattle.amqp_model.specs.Fields.{rules_of}
use Rattle.amqp_codec.specs.Fields.{Fields, none, field, slots}
use Rattle.amqp_codec.specs.FieldReading.{IsBlank}
use Rattle.amqp_codec.specs.Fieldless.{HasNoFields}

pub no_rules : {V : Type 0} (fs : Fields V) → HasNoFields fs → [] ≡ rules_of (slots fs)
unfolding HasNoFields
no_rules none h = refl
no_rules (field get f fs) h = absurd h

pub blank : {V : Type 0} (fs : Fields V) (v : V) → HasNoFields fs → IsBlank fs v
unfolding HasNoFields
blank none v h = tt
blank (field get f fs) v h = absurd h

pub none_within : {V : Type 0} (fs : Fields V) (n : ℕ) → HasNoFields fs → n < length (rules_of (slots fs)) → ⊥
unfolding HasNoFields
none_within none n h w = omega (arith, w)
none_within (field get f fs) n h w = absurd h
