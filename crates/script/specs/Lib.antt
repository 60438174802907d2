-- What the contracts of this crate cite.
pub mod Words
pub mod Names
pub mod Payload
pub mod Line
pub mod Input
