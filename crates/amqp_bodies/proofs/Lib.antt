pub mod PeekSteps
pub mod BodyKinds
pub mod BodySteps
pub mod TransposeSteps
