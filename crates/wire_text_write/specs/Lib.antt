pub mod Cases
pub mod Text
pub mod TextLaws
