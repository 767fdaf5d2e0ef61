pub mod DateLaws
pub mod JudgeLaws
pub mod KindLaws
pub mod RowLaws
pub mod SignLaws
pub mod SizeLaws
