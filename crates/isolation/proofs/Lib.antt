-- The theorems of this crate, beside the proofs of its functions.
pub mod OneCall
pub mod PairLaws
pub mod Isolation
pub mod Opened
pub mod Persistence
pub mod HeldMessages
pub mod Reachable
mod Examples
