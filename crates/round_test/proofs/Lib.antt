pub mod TurnLaws
pub mod Unique
