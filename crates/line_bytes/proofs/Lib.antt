pub mod CellLaws
pub mod CutLaws
pub mod DigitLaws
pub mod EqualLaws
pub mod EveryLaws
pub mod LineLaws
pub mod NameLaws
pub mod SpaceLaws
