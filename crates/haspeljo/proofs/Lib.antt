pub mod ExportLaws
pub mod BuildLaws
