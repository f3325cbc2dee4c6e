pub mod Bound
pub mod Lengths
pub mod Forcing
pub mod Demands
pub mod Seen
