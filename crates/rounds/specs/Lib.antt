pub mod Rounds
pub mod Forcing
pub mod Words
pub mod Said
pub mod Cases
pub mod Refuted
