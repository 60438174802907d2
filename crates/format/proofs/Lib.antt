-- The theorems of this crate, beside the proofs of its functions.
pub mod Run
pub mod Alike
pub mod Payload
pub mod Whole
pub mod Steps
pub mod Filling
pub mod ReaderLaws
pub mod Always
pub mod Worked
pub mod Determined
pub mod Codes
pub mod Bytes
pub mod Writing
pub mod Faithful
pub mod FaithfulParts
