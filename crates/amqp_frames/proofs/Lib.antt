pub mod AgainLemmas
pub mod BodyLemmas
pub mod DeliveryLemmas
pub mod LengthLemmas
pub mod PieceLemmas
pub mod StepLemmas
pub mod TransferLemmas
pub mod WriteLemmas
