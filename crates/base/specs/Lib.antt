pub mod Choice
pub mod Sums
pub mod Least
pub mod Rows
