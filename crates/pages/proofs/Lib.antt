pub mod NumberLaws
pub mod PageLaws
