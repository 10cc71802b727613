pub mod Depths
pub mod Passes
pub mod Reserved
pub mod Rewrites
pub mod Unwritten
pub mod FromReader
pub mod FilledMemory
pub mod Placed
