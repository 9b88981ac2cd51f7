pub mod BogusLaws
pub mod Cases
pub mod MessageLaws
pub mod OrderCases
pub mod PlacesLaws
pub mod WritesLaws
