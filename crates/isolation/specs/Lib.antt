-- What the theorems of this crate speak of.
pub mod Runs
pub mod Pairs
pub mod Lasting
pub mod Opened
