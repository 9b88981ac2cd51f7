mod Walk
pub mod AsciiLaws
pub mod Cases
pub mod ScalarLaws
pub mod ScalarStepLaws
pub mod Utf8Laws
