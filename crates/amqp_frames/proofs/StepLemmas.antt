-- What is returned, since an input has one answer.
use Rattle.std.proofs.Common.{ℕ, List, Result, Ok, Err}
use Rattle.std.specs.Prelude.{IfErr}
use Rattle.amqp_frame_headers.specs.declared.frame_error.FrameError.{FrameError}
use Rattle.amqp_frame_headers.specs.declared.frame_header.FrameHeader.{FrameHeader}
use Rattle.amqp_frame_headers.specs.Frames.{BeginsWithFrame, FrameFault, NeedsMore}
use Rattle.amqp_frame_headers.proofs.AnswerLemmas.{frame_or_fault, frame_or_need}
use Rattle.amqp_frame_headers.proofs.FrameLemmas.{one_frame}
use Rattle.amqp_frames.specs.declared.frames.Step.{Step}
use Rattle.amqp_frames.specs.declared.frames.Step.TheVariants as Steps
use Rattle.amqp_frames.specs.Steps.{IfFrame, IfNeeds, IsStep}

-- A frame that begins the input is what is returned, since no other answer is right.
pub found : (max : ℕ) (input : List ℕ) (r : Result Step FrameError)
    → IfFrame r (λ f. BeginsWithFrame max input f.header f.extended.now f.body.now) → IfNeeds r (NeedsMore max input)
    → IfErr r (FrameFault max input) → (h : FrameHeader) (x b : List ℕ) → BeginsWithFrame max input h x b → IsStep r h x b
found max input (Ok (Steps.Frame f)) frame needs err h x b begins =
    one_frame max max input f.header h f.extended.now x f.body.now b frame begins
found max input (Ok (Steps.Needs n)) frame needs err h x b begins = frame_or_need max input h x b n begins needs
found max input (Err e) frame needs err h x b begins = frame_or_fault max input h x b e begins err
