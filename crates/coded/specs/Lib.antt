pub mod Coded
pub mod Back
