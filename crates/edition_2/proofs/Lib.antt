pub mod SecondLaws
pub mod Unique
