pub mod LinePassLaws
