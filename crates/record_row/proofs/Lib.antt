-- The theorems of this crate, beside the proofs of its functions.
mod RowLaws
mod HandingLaws
pub mod Determined
