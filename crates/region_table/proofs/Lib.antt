-- The theorems of this crate, beside the proofs of its functions.
pub mod RowLaws
pub mod CountLaws
pub mod Outcomes
pub mod TableLaws
pub mod Determined
mod RowExamples
mod Examples
