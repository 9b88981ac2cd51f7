pub mod Zigzag
pub mod Width
