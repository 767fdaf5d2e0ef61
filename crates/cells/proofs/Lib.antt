pub mod DecimalLaws
pub mod JudgingLaws
pub mod ScanLaws
