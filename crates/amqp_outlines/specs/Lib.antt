pub mod Spans
pub mod Outlines
