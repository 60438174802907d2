-- The theorems of this crate, beside the proofs of its functions.
pub mod Entries
pub mod Laws
pub mod Determined
mod Examples
