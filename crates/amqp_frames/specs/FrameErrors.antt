-- The places that errors report. It defines nothing.
pub use Rattle.amqp_frame_headers.specs.FrameErrors.{place_of}
