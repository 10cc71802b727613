pub mod KindsReading
pub mod KindsSpelled
pub mod KindsRewriting
pub mod MessageLimits
pub mod MessageSpelled
pub mod StrictAgain
pub mod SectionCodes
