pub mod IndexLaws
pub mod AnswerLaws
pub mod Cases
pub mod PartsLaws
pub mod ValuesLaws
