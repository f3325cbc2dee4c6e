pub mod CapLaws
pub mod MadeLaws
pub mod Unique
