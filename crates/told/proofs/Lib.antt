pub mod ToldLaws
pub mod Unique
