-- The language of tables; what they say of bits; reading and writing by them.
pub mod Format
pub mod Syntax
pub mod Form
pub mod Coded
pub mod Stopped
pub mod Varied
pub mod Holds
pub mod Reading
pub mod Whole
pub mod Writing
pub mod Faithful
pub mod Readers
