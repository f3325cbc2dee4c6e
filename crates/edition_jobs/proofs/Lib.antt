pub mod JobLaws
pub mod Unique
