pub mod Table
pub mod Checks
pub mod Faults
pub mod Load
