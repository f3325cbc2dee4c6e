pub mod Eased
pub mod NeverHurts
pub mod TableWords
