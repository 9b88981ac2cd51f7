pub mod Asked
pub mod FrameWriteLaws
