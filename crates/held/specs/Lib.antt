-- What the contracts of this crate cite.
pub mod Lasting
pub mod Held
