pub mod Answers
pub mod AnswersLaws
pub mod Values
pub mod ValuesLaws
