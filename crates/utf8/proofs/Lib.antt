pub mod CharacterLaws
pub mod RowLaws
pub mod TakenLaws
