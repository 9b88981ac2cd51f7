pub mod Entry
pub mod Places
pub mod Verdict
pub mod Value
pub mod Tables
pub mod Writes
pub mod ByIndex
