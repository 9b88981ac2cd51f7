-- The parts of F that single functions compute.
pub mod Parts
