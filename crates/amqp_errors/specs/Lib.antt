pub mod FieldsType
pub mod TextTable
pub mod NormalType
pub mod Texts
pub mod Conditions
pub mod Tables
