pub mod Terms
pub mod Items
pub mod Nodes
pub mod Walks
pub mod Fields
