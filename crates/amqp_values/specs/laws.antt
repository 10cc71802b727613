pub mod Values
pub mod Equality
pub mod Canon
pub mod Order
