-- The theorems of this crate, beside the proofs of its functions.
pub mod KindLaws
pub mod Faithful
pub mod AnswerLaws
pub mod Determined
