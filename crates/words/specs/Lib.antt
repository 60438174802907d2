-- What the contracts of this crate cite.
pub mod Number
pub mod Hex
pub mod Place
