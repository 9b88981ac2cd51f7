pub mod Cases
pub mod MagicLaws
pub mod OrderLaws
