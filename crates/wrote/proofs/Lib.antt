pub mod WroteLaws
pub mod Unique
