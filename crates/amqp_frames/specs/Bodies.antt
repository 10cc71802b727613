-- The bodies of frames (Part 2, section 2.3.2; Part 5, section 5.3.1).
use Rattle.std.specs.Prelude.{◌≡◌, ℕ, ◌+◌, ◌*◌, ◌<◌, ◌⊎◌, List, [], length, drop, Result, Ok, Err, Option, None, Some, ⊤}
use Rattle.amqp_wire.specs.declared.error.Error.{Error}
use Rattle.amqp_wire.specs.declared.error.Error.TheVariants.{Memory, Limit}
use Rattle.amqp_wire.specs.declared.limits.Limits.{Limits}
use Rattle.amqp_decoder.specs.Steps.{IsReadError}
use Rattle.amqp_codec.specs.Reading.{Reading, BeginsWithin, IsUnreadableWithin, IsGreatest}
use Rattle.amqp_codec.specs.TermReading.{reading_of}
use Rattle.amqp_attach.specs.Tables.{performative}
use Rattle.amqp_attach.specs.declared.performative.Performative.{Performative}
use Rattle.amqp_frame_headers.specs.Tables.{sasl_frame}
use Rattle.amqp_frame_headers.specs.declared.sasl_frame.SaslFrame.{SaslFrame}
use Rattle.amqp_frame_headers.specs.declared.frame_header.FrameHeader.{FrameHeader}
use Rattle.amqp_frame_headers.specs.declared.frame_header.FrameKind.{FrameKind}
use Rattle.amqp_frame_headers.specs.declared.frame_header.FrameKind.TheVariants.{Amqp, Sasl}
use Rattle.amqp_frames.specs.declared.body.AmqpBody.{AmqpBody}
use Rattle.amqp_frames.specs.declared.body_error.BodyFault.{BodyFault}
use Rattle.amqp_frames.specs.declared.body_error.BodyFault.TheVariants.{OtherType, Value, EmptySasl, BytesLeft}
use Rattle.amqp_frames.specs.declared.body_error.BodyError.{BodyError}

-- the two types of frames
abbrev pub IsAmqp : FrameKind → Type 0
IsAmqp (Amqp channel) = ⊤
IsAmqp Sasl = ⊥

abbrev pub IsSasl : FrameKind → Type 0
IsSasl (Amqp channel) = ⊥
IsSasl Sasl = ⊤

-- Within the limits, the body begins with the performative, and the payload is the rest.
pub record IsAmqpBody (limits : Limits) (body : List ℕ) (p : Performative) (payload : List ℕ) : Type 0 where
  pub len : ℕ
  pub begins : BeginsWithin limits (reading_of performative) body p len
  pub rest : payload ≡ drop len body

-- Within the limits, the value is the whole body.
abbrev pub IsSaslBody : Limits → List ℕ → SaslFrame → Type 0
IsSaslBody limits body v = BeginsWithin limits (reading_of sasl_frame) body v (length body)

-- ---- why a body isn't read

-- Why the body's first value isn't read: an allocation failed, or the body begins with no value within the limits and has this fault.
-- No reader fails here, and `Limit` needs a limit of the caller.
pub record IsUnread {T : Type 0} (limits : Limits) (r : Reading T) (body : List ℕ) (e : Error) : Type 0 where
  pub cause : (e ≡ Memory) ⊎ IsUnreadableWithin limits r body e
  pub unfailing : IsReadError e → ⊥
  pub limited : e ≡ Limit → IsGreatest limits → ⊥

-- The body isn't empty.
abbrev pub IsThere : List ℕ → Type 0
IsThere body = 0 < length body

-- For each fault, when the body of an AMQP frame has it, and where.
abbrev pub AmqpFault : Limits → FrameHeader → List ℕ → BodyFault → ℕ → Type 0
AmqpFault limits header body OtherType at = IsSasl header.kind × (at ≡ 5)
AmqpFault limits header body (Value e) at =
    IsAmqp header.kind × IsThere body × IsUnread limits (reading_of performative) body e × (at ≡ 4 * header.data_offset)
AmqpFault limits header body EmptySasl at = ⊥
AmqpFault limits header body BytesLeft at = ⊥

-- For each fault, when the body of a SASL frame has it, and where.
abbrev pub SaslFault : Limits → FrameHeader → List ℕ → BodyFault → ℕ → Type 0
SaslFault limits header body OtherType at = IsAmqp header.kind × (at ≡ 5)
SaslFault limits header body (Value e) at =
    IsSasl header.kind × IsThere body × IsUnread limits (reading_of sasl_frame) body e × (at ≡ 4 * header.data_offset)
SaslFault limits header body EmptySasl at = IsSasl header.kind × (body ≡ []) × (at ≡ 4 * header.data_offset)
SaslFault limits header body BytesLeft at =
    IsSasl header.kind × (v : SaslFrame) × (n : ℕ) × BeginsWithin limits (reading_of sasl_frame) body v n × (n < length body)
    × (at ≡ 4 * header.data_offset + n)

-- ---- words on what is returned

-- P of the body, if one is returned
abbrev pub IfBody : Result (Option AmqpBody) BodyError → (AmqpBody → Type 0) → Type 0
IfBody (Ok (Some b)) P = P b
IfBody (Ok None) P = ⊤
IfBody (Err e) P = ⊤

-- P, if the body is said to be empty
abbrev pub IfNoBody : Result (Option AmqpBody) BodyError → Type 0 → Type 0
IfNoBody (Ok (Some b)) P = ⊤
IfNoBody (Ok None) P = P
IfNoBody (Err e) P = ⊤

-- This performative and this payload are returned, unless an allocation failed.
abbrev pub ReturnsBody : Result (Option AmqpBody) BodyError → Performative → List ℕ → Type 0
ReturnsBody (Ok (Some b)) p payload = (reading_of performative).same b.performative p × (b.payload.now ≡ payload)
ReturnsBody (Ok None) p payload = ⊥
ReturnsBody (Err e) p payload = e.fault ≡ Value Memory

-- This value is returned, unless an allocation failed.
abbrev pub ReturnsSasl : Result SaslFrame BodyError → SaslFrame → Type 0
ReturnsSasl (Ok w) v = (reading_of sasl_frame).same w v
ReturnsSasl (Err e) v = e.fault ≡ Value Memory
