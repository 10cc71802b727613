pub mod ArrayType
pub mod Several
pub mod MultipleFields
pub mod laws
