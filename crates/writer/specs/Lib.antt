pub mod Written
pub mod Ways
