pub mod Blocks
pub mod Counter
