-- The SASL types as one type (Part 5, section 5.3.1). It defines nothing.
pub use Rattle.amqp_frame_headers.specs.Tables.{sasl_frames, sasl_frame}
