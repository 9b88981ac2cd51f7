pub mod Answers
pub mod Peer
