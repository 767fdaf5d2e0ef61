pub mod Bytes
pub mod Cells
pub mod Spaces
pub mod Lines
pub mod Names
pub mod Inner
