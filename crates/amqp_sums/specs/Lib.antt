pub mod Restricted
pub mod Choices
pub mod Types
pub mod laws
