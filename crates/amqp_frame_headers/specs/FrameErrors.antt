-- The places that errors report.
use Rattle.std.specs.Prelude.{ℕ}
use Rattle.amqp_frame_headers.specs.declared.frame_error.FrameError.{FrameError}
use Rattle.amqp_frame_headers.specs.declared.frame_error.FrameError.TheVariants.{SizeBelowHeader, SizeAboveMaximum}
use Rattle.amqp_frame_headers.specs.declared.frame_error.FrameError.TheVariants.{DataOffsetBelowHeader, DataOffsetPastSize, UnknownType}
use Rattle.amqp_frame_headers.specs.declared.frame_error.FrameError.TheVariants.{SaslAboveLimit, NotProtocolHeader}

-- where the field begins that is at fault (Part 2, sections 2.2 and 2.3.1)
abbrev pub place_of : FrameError → ℕ
place_of SizeBelowHeader = 0
place_of SizeAboveMaximum = 0
place_of DataOffsetBelowHeader = 4
place_of DataOffsetPastSize = 4
place_of (UnknownType _) = 5
place_of SaslAboveLimit = 0
place_of NotProtocolHeader = 0
