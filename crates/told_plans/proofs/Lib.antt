pub mod EndLaws
pub mod Unique
