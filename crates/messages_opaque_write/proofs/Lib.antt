pub mod Cases
pub mod MessageWriteLaws
