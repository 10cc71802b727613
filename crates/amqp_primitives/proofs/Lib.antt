pub mod NewtypeReads
