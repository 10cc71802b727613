pub mod DistinctDescriptor
pub mod NeverType
