pub mod Exits
pub mod WalkSteps
pub mod RunSteps
pub mod NoSectionSteps
