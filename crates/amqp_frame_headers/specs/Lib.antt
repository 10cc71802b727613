pub mod FrameErrors
pub mod Frames
pub mod Headers
pub mod Tables
