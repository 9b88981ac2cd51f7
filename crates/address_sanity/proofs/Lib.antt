pub mod RowTests
pub mod BogusLaws
pub mod Cases
pub mod IntervalLaws
