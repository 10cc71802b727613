pub mod Fronts
pub mod KindsOfCodes
pub mod Looks
pub mod Members
pub mod SectionLooks
pub mod SectionsAhead
