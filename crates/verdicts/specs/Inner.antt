pub mod Ranges
pub mod Notes
