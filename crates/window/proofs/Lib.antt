pub mod InverseLaws
pub mod WindowLaws
pub mod Unique
