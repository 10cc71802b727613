pub mod Joining
pub mod Tries
pub mod Trimming
pub mod Pending
pub mod PrimitiveReads
pub mod Options
pub mod NoFields
mod NullSteps
pub mod FieldSteps
mod HeldReads
mod ListReads
pub mod EachWritten
pub mod PairsWritten
pub mod ItemsSteps
pub mod MapSteps
pub mod BTreeMapSteps
