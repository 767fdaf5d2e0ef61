pub mod Faults
pub mod Grid
pub mod Heads
pub mod Labels
pub mod Lines
pub mod Names
pub mod Rows
pub mod Sorts
