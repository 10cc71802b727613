-- What is read and rewritten as the type of a number, within limits that cross as numbers.
use Rattle.std.specs.Prelude.{◌≡◌, ◌⊎◌, ◌<◌, ℕ, List, length}
use Rattle.amqp_wire.specs.declared.error.Error.TheVariants.{Memory}
use Rattle.amqp_wire.specs.declared.limits.Limits.{Limits}
use Rattle.amqp_wire.specs.declared.refusal.Refusal.{Refusal}
use Rattle.amqp_catalogue.specs.NamedTypes.{type_name, IsText}
use Rattle.amqp_catalogue.specs.Rows.{number_in}
use Rattle.amqp_catalogue.specs.contracts.type_name.TypeName.{the_type}
use Rattle.amqp_catalogue.specs.declared.type_name.TypeName.{TypeName}
use Rattle.amqp_c.specs.Limits.{AreLimits}
use Rattle.amqp_named_values.specs.Rewriting.{IsLengthOf, HasNoLength, HasNoText}
use Rattle.amqp_c.specs.Outcomes.{done, no_room, failure_outcome}
use Rattle.amqp_read_write.specs.Room.{StandsIn, HasNoRoom}
use Rattle.amqp_c.specs.declared.limits.GivenLimits.{GivenLimits}
use Rattle.amqp_c.specs.declared.outcome.Failure.{Failure}
use Rattle.amqp_c.specs.declared.outcome.Failure.TheVariants.{NoType, NoLimits, Failed}
use Rattle.amqp_c.specs.declared.outcome.Outcome.{Outcome}

-- The number of a type: its place among the types, from 1 on.
abbrev pub HasNumber : TypeName → ℕ → Type 0
HasNumber named number = number_in the_type named ≡ number

-- The number is that of the type with the name, or 0 if none has it.
abbrev pub IsNumberOf : List ℕ → ℕ → Type 0
IsNumberOf name number = (((named : TypeName) → type_name named ≡ name → ⊥) × (number ≡ 0))
    ⊎ ((named : TypeName) × (type_name named ≡ name) × HasNumber named number)

-- The number is the type's, and the given numbers are the limits.
abbrev pub IsOf : ℕ → GivenLimits → TypeName → Limits → Type 0
IsOf number given named within = HasNumber named number × AreLimits given within

-- Why a call over a type fails: no type has the number, or the limits are none, or memory ran out, or the type's value has this fault.
abbrev pub Fails : ℕ → GivenLimits → (TypeName → Limits → Refusal → Type 0) → Failure → Type 0
Fails number given Has NoType = (named : TypeName) → HasNumber named number → ⊥
Fails number given Has NoLimits = ((named : TypeName) × HasNumber named number) × (128 < given.nesting)
Fails number given Has (Failed r) =
    (named : TypeName) × (within : Limits) × IsOf number given named within × ((r.error ≡ Memory) ⊎ Has named within r)

-- Within the limits, so many bytes are taken by the value of the type that the input begins with.
abbrev pub IsLength : ℕ → GivenLimits → List ℕ → ℕ → Type 0
IsLength number given input n = (named : TypeName) × (within : Limits) × IsOf number given named within × IsLengthOf named within input n

abbrev pub FailsToRead : ℕ → GivenLimits → List ℕ → Failure → Type 0
FailsToRead number given input f = Fails number given (λ named within r. HasNoLength named within input r) f

-- Within the limits, the text is the canonical one of the value of the type that the input begins with, which takes so many bytes.
abbrev pub IsRewriting : ℕ → GivenLimits → List ℕ → List ℕ → ℕ → Type 0
IsRewriting number given input text n =
    (named : TypeName) × (within : Limits) × IsOf number given named within × IsText within named input text n

abbrev pub FailsToRewrite : ℕ → GivenLimits → List ℕ → Failure → Type 0
FailsToRewrite number given input f = Fails number given (λ named within r. HasNoText named within input r) f

-- The length is told of the value that the input begins with; or the outcome says why there is none, and the number stays as it was.
abbrev pub Reads : ℕ → GivenLimits → List ℕ → ℕ → ℕ → Outcome → Type 0
Reads number given input old new outcome = ((outcome ≡ done) × IsLength number given input new)
    ⊎ ((f : Failure) × (outcome ≡ failure_outcome f) × FailsToRead number given input f × (new ≡ old))

-- What a call has written: the room, the length of the text, and how many bytes the value takes.
pub record Written : Type 0 where
  pub room : List ℕ
  pub written : ℕ
  pub taken : ℕ

-- The canonical text stands in the room; or there is no room for it, and only the numbers are told; or the outcome says why there is no
-- text, and all stays as it was.
abbrev pub Rewrites : ℕ → GivenLimits → List ℕ → Written → Written → Outcome → Type 0
Rewrites number given input old new outcome =
    ((text : List ℕ) × IsRewriting number given input text new.taken × (new.written ≡ length text)
    × (((outcome ≡ done) × StandsIn text old.room new.room) ⊎ ((outcome ≡ no_room) × HasNoRoom text old.room new.room)))
    ⊎ ((f : Failure) × (outcome ≡ failure_outcome f) × FailsToRewrite number given input f × (new ≡ old))
