pub mod FoundLaws
pub mod VerdictLaws
pub mod UrlLaws
pub mod Cases
pub mod PeerLaws
