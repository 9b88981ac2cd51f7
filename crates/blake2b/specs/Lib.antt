-- BLAKE2b: the RFC's definitions, and the laws.
pub mod Blake2b
