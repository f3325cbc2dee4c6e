pub mod BlockLaws
pub mod Unique
