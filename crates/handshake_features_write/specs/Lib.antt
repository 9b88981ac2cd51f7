pub mod Features
pub mod FeaturesLaws
