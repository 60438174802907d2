-- The theorems of this crate, beside the proofs of its functions.
pub mod Texts
pub mod Said
pub mod Taken
pub mod Determined
