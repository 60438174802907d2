-- The theorems of this crate, beside the proofs of its functions.
mod Finish
pub mod Alone
pub mod Determined
