-- Frames (Part 2, section 2.3; Part 5, section 5.3.1). It defines nothing.
pub use Rattle.amqp_frame_headers.specs.Frames.{size_of, data_offset_of, type_of, channel_of, HasSize, HasDataOffset, HasType}
pub use Rattle.amqp_frame_headers.specs.Frames.{IsOfKind, IsFrame, BeginsWithFrame, FrameFault, BreaksNoRule, NeedsMore}
pub use Rattle.amqp_frame_headers.specs.Frames.{kind_bytes, frame_header_bytes, header_of_body, MayHave, greatest_size, too_large}
