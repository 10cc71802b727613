pub mod DescribedReading
pub mod DescribedType
