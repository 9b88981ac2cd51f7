pub mod Row
pub mod ValueLaws
