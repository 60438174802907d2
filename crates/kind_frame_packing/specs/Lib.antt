-- What the contracts of this crate cite.
pub mod FramePacking
pub mod SetAside
