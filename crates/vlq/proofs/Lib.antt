pub mod VlqLoop
pub mod Cases
pub mod ShortStringLaws
pub mod VlqLaws
