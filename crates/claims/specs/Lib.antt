pub mod Words
pub mod Algorithm2
pub mod Results
pub mod Below
pub mod Cases
pub mod Meaning
pub mod NeverHurts
pub mod Wrong
