pub mod NextSteps
pub mod MessageSteps
pub mod GroupSteps
pub mod WriteSteps
pub mod StrictSteps
pub mod Limits
mod OrderLaws
