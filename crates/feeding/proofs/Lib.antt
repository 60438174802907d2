-- The theorems of this crate, beside the proofs of its functions.
pub mod FeedLaws
pub mod FillLaws
pub mod Determined
mod Examples
