pub mod DigitLaws
pub mod PatchLaws
pub mod PutLaws
pub mod SizeLaws
pub mod TextLaws
