pub mod EveryLaws
