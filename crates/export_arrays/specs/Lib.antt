pub mod Networks
pub mod Entries
pub mod Messages
pub mod Steps
