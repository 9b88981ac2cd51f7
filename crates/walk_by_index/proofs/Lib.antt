pub mod Cases
pub mod InStreamLaws
