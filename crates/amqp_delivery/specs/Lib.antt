pub mod Tables
pub mod Members
