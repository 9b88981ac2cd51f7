pub mod Cases
pub mod FrameLaws
pub mod OrderCases
