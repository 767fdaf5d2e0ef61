pub mod After
pub mod Inner
