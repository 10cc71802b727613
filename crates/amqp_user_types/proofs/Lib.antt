pub mod IdentifierReads
