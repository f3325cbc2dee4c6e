pub mod OnlyLaws
pub mod MoveLaws
pub mod Unique
