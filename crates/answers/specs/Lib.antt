-- What the contracts of this crate cite.
pub mod Listed
pub mod Answer
