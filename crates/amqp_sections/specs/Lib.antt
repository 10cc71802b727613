pub mod SectionType
pub mod Sections
