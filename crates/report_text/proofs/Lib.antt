pub mod ReportLaws
pub mod RowLengthLaws
pub mod LineLengthLaws
pub mod FitLaws
pub mod ReadLaws
