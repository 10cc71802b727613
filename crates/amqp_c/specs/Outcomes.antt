-- What calls return.
use Rattle.std.specs.Prelude.{◌≡◌, ◌≤◌, ◌<◌, ℕ, List, length}
use Rattle.amqp_wire.specs.declared.error.Error.{Error}
use Rattle.amqp_wire.specs.declared.error.Error.TheVariants.{UnknownCode, FloatCode, WrongType, Custom, Memory, Read, MixedArray, TooLarge}
use Rattle.amqp_wire.specs.declared.refusal.Refusal.{Refusal}
use Rattle.amqp_wire.specs.Error.{number_of}
use Rattle.amqp_c.specs.declared.outcome.Outcome.{Outcome}
use Rattle.amqp_c.specs.declared.outcome.Failure.{Failure}
use Rattle.amqp_c.specs.declared.outcome.Failure.TheVariants as failure

-- Of the call that did what it is for.
abbrev pub done : Outcome
done = record { number = 0; detail = 0; at = 0 }

-- Of a text that has more bytes than there is room for.
abbrev pub no_room : Outcome
no_room = record { number = 1000; detail = 0; at = 0 }

-- Of a number that no type has.
abbrev pub no_type : Outcome
no_type = record { number = 1001; detail = 0; at = 0 }

-- Of limits that let values nest more than 128 deep.
abbrev pub no_limits : Outcome
no_limits = record { number = 1002; detail = 0; at = 0 }

-- What an error says besides its number: the format code that it names, or the reason of a user's type.
abbrev pub detail_of : Error → ℕ
detail_of (UnknownCode code) = code
detail_of (FloatCode code) = code
detail_of (WrongType code) = code
detail_of (Custom reason) = reason
detail_of _ = 0

-- Of a call that an error refuses, with this place.
abbrev pub refused_at : Error → ℕ → Outcome
refused_at e at = record { number = number_of e; detail = detail_of e; at = at }

-- The error is a fault of bytes that are read. Otherwise memory ran out, a reader failed, or a value can't be written.
abbrev pub IsOfBytes : Error → Type 0
IsOfBytes Memory = ⊥
IsOfBytes (Read kind) = ⊥
IsOfBytes MixedArray = ⊥
IsOfBytes TooLarge = ⊥
IsOfBytes _ = Unit {0}

-- The place that is told of an error: its own if it is a fault of bytes, and otherwise 0.
abbrev pub place_in : Error → ℕ → ℕ
place_in Memory at = 0
place_in (Read kind) at = 0
place_in MixedArray at = 0
place_in TooLarge at = 0
place_in _ at = at

-- Of a call that is refused for a reason and at a place.
abbrev pub outcome_of : Refusal → Outcome
outcome_of r = refused_at r.error (place_in r.error r.at)

-- Of a failure.
abbrev pub failure_outcome : Failure → Outcome
failure_outcome failure.NoType = no_type
failure_outcome failure.NoLimits = no_limits
failure_outcome (failure.Failed r) = outcome_of r

-- The place of a failure is in the input.
abbrev pub IsPlacedIn : List ℕ → Failure → Type 0
IsPlacedIn input (failure.Failed r) = r.at ≤ length input
IsPlacedIn input _ = Unit {0}

-- A place other than 0 is told only of a fault of bytes.
abbrev pub PlacesFault : Outcome → Type 0
PlacesFault outcome = 0 < outcome.at → (e : Error) × IsOfBytes e × (outcome.number ≡ number_of e)
