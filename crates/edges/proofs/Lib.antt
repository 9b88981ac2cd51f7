pub mod EdgesLaws
