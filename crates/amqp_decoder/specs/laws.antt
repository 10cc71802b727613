pub mod OtherSource
