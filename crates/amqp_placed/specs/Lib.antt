pub mod Facing
pub mod Shown
