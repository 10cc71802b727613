pub mod MessageFaults
pub mod Sections
