pub mod FillLaws
pub mod Unique
