-- The theorems of this crate, beside the proofs of its functions.
pub mod BitLaws
pub mod ByteLaws
pub mod ElementLaws
pub mod TailLaws
pub mod IdentifierLaws
pub mod SignedLaws
pub mod Reading
pub mod Widths
pub mod Determined
pub mod Numbers
mod Examples
pub mod Exits
