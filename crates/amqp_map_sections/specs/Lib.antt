pub mod MapSections
pub mod SimpleMaps
