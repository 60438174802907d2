-- What the contracts of this crate cite.
pub mod Rows
pub mod RowCases
pub mod Table
pub mod Cases
