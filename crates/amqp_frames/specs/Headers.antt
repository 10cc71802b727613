-- Protocol headers (Part 2, section 2.2; Part 5, sections 5.2.1 and 5.3.2). It defines nothing.
pub use Rattle.amqp_frame_headers.specs.Headers.{protocol_header_bytes, protocol_header_text, IsSupported, BeginsWithHeader, AgreesWithName}
pub use Rattle.amqp_frame_headers.specs.Headers.{NeedsHeader, IsNoHeader, IfHeader, IfHeaderNeeds}
