pub mod State
pub mod Kinds
pub mod Members
pub mod Sections
