pub mod Reading
pub mod Header
