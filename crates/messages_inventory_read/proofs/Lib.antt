pub mod AnswerLaws
pub mod Cases
pub mod ItemsLaws
pub mod PartsLaws
pub mod ValuesLaws
