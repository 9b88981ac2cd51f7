pub mod Chain
pub mod Order
pub mod PartsLaws
pub mod Table
