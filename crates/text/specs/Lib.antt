pub mod Catalogue
pub mod Reading
pub mod Samples
