mod TermReads
mod Measured
