pub mod StepLines
pub mod NextLines
