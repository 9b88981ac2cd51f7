pub mod Ready
pub mod ReadyLaws
pub mod EntryLaws
pub mod Rows
pub mod Cases
pub mod RowsLaws
pub mod NumbersLaws
