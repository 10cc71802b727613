pub mod Verdicts
pub mod Blocks
