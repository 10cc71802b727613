mod CopiesMade
mod DistinctKeys
mod FormatCodes
mod KeysTwice
mod MapReads
mod Ordered
mod Places
mod Rising
pub mod RootsDecide
pub mod Same
mod ValuesFed
pub mod ValuesWritten
pub mod ValueSteps
mod ValueMembersLaws
