pub mod Asked
pub mod AskedLaws
pub mod LengthLaws
pub mod RowLaws
