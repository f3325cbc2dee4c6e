pub mod ListLaws
pub mod DifferenceLaws
pub mod Unique
