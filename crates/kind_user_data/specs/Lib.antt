-- What the contracts of this crate cite.
pub mod Registered
pub mod Unregistered
