-- Runs of calls, on any machine.
pub mod Run
pub mod Cell
pub mod Since
