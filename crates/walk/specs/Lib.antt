pub mod Walk
pub mod CutRule
pub mod Session
pub mod Places
pub mod WrittenSession
pub mod Calls
pub mod Theorems
pub mod Demands
