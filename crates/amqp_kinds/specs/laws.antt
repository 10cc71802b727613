pub mod Kind
pub mod TreeMeanings
pub mod SumKey
