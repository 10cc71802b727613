pub mod AnnotationsType
pub mod BorrowedKeys
pub mod OwnedKeys
pub mod laws
