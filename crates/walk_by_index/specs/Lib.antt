pub mod InStream
pub mod Answers
