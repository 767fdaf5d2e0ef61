pub mod Kinds
pub mod Verdicts
pub mod Decimals
pub mod Dates
pub mod Judge
pub mod Rows
pub mod Inner
