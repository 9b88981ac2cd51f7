pub mod Magic
pub mod Order
pub mod Places
pub mod Answers
