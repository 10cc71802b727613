-- Words on what `next_frame` returns.
use Rattle.std.specs.Prelude.{◌≡◌, ℕ, List, Result, Ok, Err, ⊤}
use Rattle.amqp_frame_headers.specs.declared.frame_error.FrameError.{FrameError}
use Rattle.amqp_frame_headers.specs.declared.frame_header.FrameHeader.{FrameHeader}
use Rattle.amqp_frames.specs.declared.frames.Frame.{Frame}
use Rattle.amqp_frames.specs.declared.frames.Step.{Step}
use Rattle.amqp_frames.specs.declared.frames.Step.TheVariants as Steps

-- P of the frame, if one is returned
abbrev pub IfFrame : Result Step FrameError → (Frame → Type 0) → Type 0
IfFrame (Ok (Steps.Frame f)) P = P f
IfFrame (Ok (Steps.Needs n)) P = ⊤
IfFrame (Err e) P = ⊤

-- P of the number of bytes that are needed, if it is returned
abbrev pub IfNeeds : Result Step FrameError → (ℕ → Type 0) → Type 0
IfNeeds (Ok (Steps.Frame f)) P = ⊤
IfNeeds (Ok (Steps.Needs n)) P = P n
IfNeeds (Err e) P = ⊤

-- A frame with this header and these parts is returned.
abbrev pub IsStep : Result Step FrameError → FrameHeader → List ℕ → List ℕ → Type 0
IsStep (Ok (Steps.Frame f)) header extended body = (f.header ≡ header) × (f.extended.now ≡ extended) × (f.body.now ≡ body)
IsStep (Ok (Steps.Needs n)) header extended body = ⊥
IsStep (Err e) header extended body = ⊥
