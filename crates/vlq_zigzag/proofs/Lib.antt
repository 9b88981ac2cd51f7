mod Casts
mod Widths
pub mod Cases
pub mod WidthLaws
pub mod ZigzagLaws
