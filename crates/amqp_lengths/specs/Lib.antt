pub mod Fronts
pub mod Pieces
pub mod Announced
pub mod Contents
pub mod Lengths
pub mod Faults
pub mod Stands
pub mod Measured
