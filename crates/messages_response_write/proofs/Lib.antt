pub mod LengthLoop
pub mod ResponseLaws
