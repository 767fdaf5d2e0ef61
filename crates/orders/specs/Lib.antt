pub mod Corrections
pub mod ListLines
pub mod Demand3
pub mod WrittenTexts
