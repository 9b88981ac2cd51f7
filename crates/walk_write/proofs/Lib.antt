pub mod ContractsLaws
