pub mod NamesLineLaws
pub mod ColumnLaws
pub mod AskedLaws
