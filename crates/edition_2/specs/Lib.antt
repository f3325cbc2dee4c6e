pub mod Second
pub mod Rows
