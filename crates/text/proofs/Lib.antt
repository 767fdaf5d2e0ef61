pub mod CatalogueLaws
pub mod DoubleLaws
pub mod EntryLaws
pub mod ReadingLaws
pub mod Samples
