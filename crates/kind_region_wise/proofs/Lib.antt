-- The theorems of this crate, beside the proofs of its functions.
pub mod Judged
pub mod Kept
pub mod Sizes
pub mod Determined
pub mod Faithful
mod Examples
