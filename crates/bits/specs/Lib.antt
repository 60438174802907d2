-- What the contracts of this crate cite.
pub mod Bits
pub mod Refusals
pub mod Out
pub mod Coding
pub mod Elements
pub mod Ended
pub mod Tail
pub mod Signed
pub mod Identifier
pub mod Answers
