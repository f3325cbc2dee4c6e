pub mod RoundChangeLaws
pub mod Theorems
pub mod Unique
