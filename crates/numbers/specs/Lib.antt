-- What the contracts of this crate cite.
pub mod Floats
pub mod Degrees
pub mod Depth
