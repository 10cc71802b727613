pub mod OutlineLemmas
pub mod NodeLemmas
