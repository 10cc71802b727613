-- The error conditions for the bodies of frames (Part 2, sections 2.8.15 and 2.8.16).
use Rattle.std.specs.Prelude.{ℕ, List, codes}
use Rattle.amqp_wire.specs.declared.error.Error.TheVariants.{Memory, Limit}
use Rattle.amqp_frames.specs.declared.body_error.BodyFault.{BodyFault}
use Rattle.amqp_frames.specs.declared.body_error.BodyFault.TheVariants.{OtherType, Value}

-- the other type of frames, an allocation that failed, a limit of the caller, and any other fault
abbrev pub condition_of : BodyFault → List ℕ
condition_of OtherType = codes "amqp:connection:framing-error"
condition_of (Value Memory) = codes "amqp:internal-error"
condition_of (Value Limit) = codes "amqp:resource-limit-exceeded"
condition_of _ = codes "amqp:decode-error"
