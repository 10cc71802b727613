pub mod Made
pub mod MessageIds
pub mod Priorities
pub mod Tables
pub mod laws
