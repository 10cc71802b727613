pub mod DescribedReads
