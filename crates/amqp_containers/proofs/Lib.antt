pub mod MultipleReads
pub mod MultipleWrites
pub mod CopiesEqual
