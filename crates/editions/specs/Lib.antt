pub mod Editions
pub mod Ways
