-- The theorems of this crate, beside the proofs of its functions.
pub mod Heads
pub mod Determined
pub mod Faithful
mod Examples
