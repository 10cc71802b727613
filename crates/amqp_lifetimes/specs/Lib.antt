pub mod Tables
pub mod Properties
