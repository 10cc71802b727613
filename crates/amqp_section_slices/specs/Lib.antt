pub mod Kinds
pub mod Slices
