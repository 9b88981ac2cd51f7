pub mod Results
pub mod ResultsLaws
pub mod Frames
pub mod Configs
pub mod Writers
pub mod Cases
