pub mod Cases
pub mod StepsLaws
