pub mod Columns
pub mod NamesLine
