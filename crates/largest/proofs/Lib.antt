pub mod KeepLaws
pub mod LookLaws
pub mod Unique
