-- The theorems of this crate, beside the proofs of its functions.
pub mod Exact
pub mod Patterns
pub mod DegreeLaws
pub mod DepthLaws
pub mod Determined
pub mod Examples
