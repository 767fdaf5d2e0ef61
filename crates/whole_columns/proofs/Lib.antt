pub mod FillLaws
pub mod OpeningLaws
pub mod FillingLaws
pub mod PromiseLaws
