-- The theorems of this crate, beside the proofs of its functions.
pub mod HeldLaws
pub mod LastingLaws
pub mod Determined
