pub mod Codes
pub mod Fronts
pub mod Announced
pub mod Values
pub mod Holds
pub mod Descriptors
pub mod Terms
pub mod Rows
pub mod Faults
pub mod Places
pub mod Containers
pub mod Elements
pub mod Answered
pub mod Cuts
pub mod RefusedBytes
pub mod DeeperFaults
pub mod Stands
mod DescriptorShares
mod Measured
