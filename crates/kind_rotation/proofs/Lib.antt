-- The theorems of this crate, beside the proofs of its functions.
pub mod Determined
pub mod Faithful
pub mod Steps
mod Examples
