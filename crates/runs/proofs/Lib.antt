-- The theorems of this crate.
pub mod Cells
pub mod Lasts
