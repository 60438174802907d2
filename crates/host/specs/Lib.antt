-- What the contracts of this crate cite.
pub mod Part
pub mod Slot
pub mod Seen
