pub mod Simple
pub mod Taken
pub mod Equality
pub mod SimpleType
pub mod Order
