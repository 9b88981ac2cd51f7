pub mod AppendixA
pub mod Blake2bLaws
pub mod Cases
pub mod CheckLaws
pub mod ElementsLaws
pub mod FilledLaws
