-- What reading bytes has come to.
use Rattle.std.specs.Prelude.{◌≡◌, ◌⊎◌, ℕ, ◌≤◌, List, length, true}
use Rattle.amqp_wire.specs.declared.error.Error.TheVariants.{Memory}
use Rattle.amqp_wire.specs.declared.limits.Limits.{Limits}
use Rattle.amqp_codec.specs.Reading.{Reading, BeginsWithin, IsUnreadableWithin}
use Rattle.amqp_lengths.specs.Fronts.{IsFront, NoFront}
use Rattle.amqp_lengths.specs.Lengths.{IsTerm}
use Rattle.amqp_lengths.specs.Stands.{StandsAt}
use Rattle.amqp_blocks.specs.declared.verdict.Verdict.{Verdict}
use Rattle.amqp_blocks.specs.declared.verdict.Verdict.TheVariants.{Value, Refused}

-- The bytes begin with a value of so many bytes. Or they begin with none, the error says why, and its place is in them.
abbrev pub IsVerdict : {T : Type 0} → Limits → Reading T → List ℕ → Verdict → Type 0
IsVerdict {T} limits r bytes (Value n) = (v : T) × BeginsWithin limits r bytes v n
IsVerdict {T} limits r bytes (Refused refusal) =
    (((r.takes_memory ≡ true) × (refusal.error ≡ Memory)) ⊎ IsUnreadableWithin limits r bytes refusal.error) × (refusal.at ≤ length bytes)

-- The bytes begin with a term of so many bytes. Or they begin with none, and the error is right about what stands at its place.
abbrev pub IsTermVerdict : List ℕ → Verdict → Type 0
IsTermVerdict bytes (Value n) = IsFront (IsTerm 128) bytes n
IsTermVerdict bytes (Refused refusal) = NoFront (IsTerm 128) bytes × StandsAt bytes refusal.error refusal.at

-- The value, or the place of the fault, is in the first n bytes.
abbrev pub EndsWithin : ℕ → Verdict → Type 0
EndsWithin n (Value len) = len ≤ n
EndsWithin n (Refused refusal) = refusal.at ≤ n
