pub mod Texts
pub mod Patches
pub mod Inner
