-- The running hash: its definitions and laws.
pub mod Running
pub mod RunningLaws
