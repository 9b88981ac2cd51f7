pub mod Ranges
pub mod Bogus
