pub mod Answers
pub mod Done
pub mod Calls
pub mod Ways
pub mod Rows
