pub mod Kinds
pub mod KindReading
pub mod KindMembers
pub mod KindSumType
pub mod PrimitiveMembers
pub mod laws
