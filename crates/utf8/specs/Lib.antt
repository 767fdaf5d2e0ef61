pub mod Syntax
pub mod Rows
pub mod Promises
