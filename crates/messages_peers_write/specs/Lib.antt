pub mod Asked
pub mod PeersLaws
