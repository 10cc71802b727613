pub mod PairsRead
pub mod CopiesEqual
mod KeyLaws
mod KeysApart
mod Places
mod Runs
