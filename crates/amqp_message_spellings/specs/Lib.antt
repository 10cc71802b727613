pub mod Sections
pub mod Faults
