pub mod Form
pub mod Fields
pub mod Reads
pub mod Writes
pub mod Wrong
