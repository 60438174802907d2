-- What the contracts of this crate cite.
pub mod Entry
pub mod Reader
pub mod Cases
pub mod Payloads
pub mod User
