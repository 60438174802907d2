-- The theorems of this crate, beside the proofs of its functions.
pub mod EntryLaws
pub mod Calls
pub mod Demand2
pub mod Local
pub mod PartLocal
pub mod Determined
pub mod Payloads
pub mod UserHeads
pub mod UserLaws
