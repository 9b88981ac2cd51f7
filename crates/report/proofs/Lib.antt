pub mod BlockLaws
pub mod Cases
pub mod ReportLaws
pub mod TheoremsProved
