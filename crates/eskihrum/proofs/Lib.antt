pub mod FewestUnique
pub mod LevelsUnique
pub mod ToldUnique
pub mod SecondUnique
pub mod Unique
