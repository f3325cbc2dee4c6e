pub mod Changed
pub mod Held
