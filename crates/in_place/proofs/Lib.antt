-- The slots as a store that is changed in place, and the structs of what is fed to one.
pub mod Parts
pub mod Eight
pub mod Pairs
pub mod Lapses
pub mod Fills
