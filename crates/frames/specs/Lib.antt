pub mod Digits
pub mod Frames
pub mod Faults
pub mod Text
