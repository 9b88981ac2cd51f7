pub mod ContractsLaws
pub mod DemandsProved
pub mod GivenLaws
pub mod GivenTheoremsProved
pub mod ReachedLaws
pub mod StepsLaws
pub mod ValuesLaws
pub mod ValuesTheoremsProved
