pub mod Shares
pub mod Rows
