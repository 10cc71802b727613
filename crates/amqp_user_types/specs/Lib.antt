pub mod IdentifierType
pub mod PortType
pub mod Tables
