-- What a filter of frames finds at the start of the bytes of a connection (Part 2, section 2.3).
use Rattle.std.specs.Prelude.{◌≡◌, ℕ, ◌⊎◌, List, [], codes}
use Rattle.amqp_wire.specs.declared.limits.Limits.{Limits}
use Rattle.amqp_frames.specs.BodyErrors.{condition_of}
use Rattle.amqp_frames.specs.FrameErrors.{place_of}
use Rattle.amqp_frames.specs.Frames.{BeginsWithFrame, FrameFault, NeedsMore}
use Rattle.amqp_frames.specs.Bodies.{IsAmqp, IsAmqpBody, AmqpFault}
use Rattle.amqp_frames.specs.declared.body_error.BodyFault.{BodyFault}
use Rattle.amqp_frames.specs.declared.frame_error.FrameError.{FrameError}
use Rattle.amqp_frames.specs.declared.frame_header.FrameHeader.{FrameHeader}
use Rattle.amqp_uses.specs.declared.connection.Passed.{Passed}
use Rattle.amqp_uses.specs.declared.connection.Passed.TheVariants.{Needs, Empty, Performative}

-- The input begins with an AMQP frame of so many bytes, which has this body.
abbrev pub BeginsWithBody : ℕ → List ℕ → FrameHeader → List ℕ → Type 0
BeginsWithBody max input header body = (extended : List ℕ) × BeginsWithFrame max input header extended body

abbrev pub IsPassed : Limits → ℕ → List ℕ → Passed → Type 0
IsPassed limits max input (Needs n) = NeedsMore max input n
IsPassed limits max input (Empty len) =
    (header : FrameHeader) × BeginsWithBody max input header [] × IsAmqp header.kind × (len ≡ header.size)
IsPassed limits max input (Performative b len) =
    (header : FrameHeader) × (body : List ℕ) × BeginsWithBody max input header body × IsAmqp header.kind
    × IsAmqpBody limits body b.performative b.payload.now × (len ≡ header.size)

-- A fault at this place, and the error condition for it: of the frame, or of its body.
abbrev pub IsFault : Limits → ℕ → List ℕ → ℕ → List ℕ → Type 0
IsFault limits max input at condition =
    ((e : FrameError) × FrameFault max input e × (at ≡ place_of e) × (condition ≡ codes "amqp:connection:framing-error"))
    ⊎ ((header : FrameHeader) × (body : List ℕ) × (fault : BodyFault) × BeginsWithBody max input header body
    × AmqpFault limits header body fault at × (condition ≡ condition_of fault))
