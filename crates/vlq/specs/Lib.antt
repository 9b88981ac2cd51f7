pub mod Vlq
pub mod ShortString
pub mod Answers
