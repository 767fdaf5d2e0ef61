pub mod RowReads
