pub mod Message
pub mod Value
pub mod Places
pub mod Writes
pub mod WriterOrder
pub mod Bogus
