pub mod Parts
pub mod PartsLaws
