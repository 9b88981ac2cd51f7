pub mod Steps
pub mod Given
pub mod Values
pub mod GivenTheorems
pub mod ValuesTheorems
pub mod Demands
