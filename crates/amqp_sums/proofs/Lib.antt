pub mod SumMembers
pub mod RestrictedReads
