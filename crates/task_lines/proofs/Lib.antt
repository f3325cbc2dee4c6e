pub mod TaskLaws
pub mod Unique
