pub mod CellLaws
pub mod LocateLaws
