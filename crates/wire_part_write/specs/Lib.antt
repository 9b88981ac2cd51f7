pub mod CopiedLaws
pub mod LastBlockLaws
