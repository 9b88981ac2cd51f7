pub mod Cases
pub mod WrittenLaws
