-- The theorems of this crate, beside the proofs of its functions.
pub mod StepLaws
pub mod FeedClaims
pub mod Determined
pub mod Tied
pub mod SeenLaws
pub mod InPlace
pub mod Parts
pub mod Examples
