pub mod Reserved
pub mod Rewritten
pub mod Room
