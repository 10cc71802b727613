pub mod AnswerLemmas
pub mod FrameLemmas
pub mod HeaderLemmas
pub mod WrittenLemmas
