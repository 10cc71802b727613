pub mod LazyType
