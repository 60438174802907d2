-- What the contracts of this crate cite.
pub mod Answered
pub mod Beside
