pub mod Cases
pub mod ConfigsLaws
