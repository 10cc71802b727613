pub mod Codes
pub mod Containers
pub mod Error
pub mod Limits
pub mod Refusals
pub mod Sources
