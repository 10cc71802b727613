-- Frames that are written whole (Part 2, section 2.3; Part 5, section 5.3.1).
use Rattle.std.specs.Prelude.{◌≡◌, ℕ, ◌+◌, ◌<◌, ◌⊎◌, List, ◌++◌, length}
use Rattle.amqp_wire.specs.declared.error.Error.{Error}
use Rattle.amqp_wire.specs.declared.error.Error.TheVariants.{Memory}
use Rattle.amqp_model.specs.Term.{Term}
use Rattle.amqp_encoder.specs.declared.size.Size.{Size}
use Rattle.amqp_encoder.specs.State.{Encoder}
use Rattle.amqp_encoder.specs.Passes.{Finds}
use Rattle.amqp_encoder.specs.Refused.{TermHasCause}
use Rattle.amqp_codec.specs.Written.{AreMeasured}
use Rattle.amqp_codec.specs.TermType.{TermType}
use Rattle.amqp_codec.specs.Spelled.{written}
use Rattle.amqp_attach.specs.Tables.{performative}
use Rattle.amqp_attach.specs.declared.performative.Performative.{Performative}
use Rattle.amqp_frame_headers.specs.Tables.{sasl_frame}
use Rattle.amqp_frame_headers.specs.Frames.{frame_header_bytes, header_of_body}
use Rattle.amqp_frame_headers.specs.declared.sasl_frame.SaslFrame.{SaslFrame}
use Rattle.amqp_frame_headers.specs.declared.frame_header.FrameKind.{FrameKind}
use Rattle.amqp_frame_headers.specs.declared.frame_error.FrameError.{FrameError}
use Rattle.amqp_frame_headers.specs.declared.frame_error.FrameError.TheVariants.{SizeAboveMaximum, SaslAboveLimit}
use Rattle.amqp_frames.specs.declared.write_error.WriteError.{WriteError}
use Rattle.amqp_frames.specs.declared.write_error.WriteError.TheVariants.{Frame, Value}

-- a frame without an extended header: the bytes of its header, and its body
abbrev pub frame_text : FrameKind → List ℕ → List ℕ
frame_text kind body = frame_header_bytes (header_of_body kind (length body)) ++ body

-- the body of an AMQP frame: the canonical text of the performative, and the payload
abbrev pub amqp_body : Performative → List ℕ → List ℕ
amqp_body p payload = written performative p ++ payload

-- The encoder has measured the terms, which take so many bytes, and has their sizes.
abbrev pub IsMeasuredBy : List Term → ℕ → Encoder → Type 0
IsMeasuredBy ts len encoder = (sizes : List Size) × AreMeasured ts len sizes × Finds encoder len sizes

-- An allocation failed, or the model refuses the value's canonical term for this reason.
abbrev pub IsUnwritable : {T : Type 0} → TermType T → T → Error → Type 0
IsUnwritable u v e = (e ≡ Memory) ⊎ TermHasCause (u.canon v) e

-- For each error, why no frame is written whose body is this one, of a value and what follows it: it would have more bytes than it may, or the
-- value isn't written.
abbrev pub WriteFault : {T : Type 0} → TermType T → FrameError → ℕ → T → List ℕ → WriteError → Type 0
WriteFault u large max v body (Frame e) = (e ≡ large) × (max < 8 + length body)
WriteFault u large max v body (Value e) = IsUnwritable u v e

-- For each error, why no AMQP frame of at most this size is written.
abbrev pub AmqpWriteFault : ℕ → Performative → List ℕ → WriteError → Type 0
AmqpWriteFault max p payload = WriteFault performative SizeAboveMaximum max p (amqp_body p payload)

-- For each error, why no SASL frame is written.
abbrev pub SaslWriteFault : SaslFrame → WriteError → Type 0
SaslWriteFault v = WriteFault sasl_frame SaslAboveLimit 512 v (written sasl_frame v)
