pub mod FoundLaws
pub mod ListedLaws
pub mod Theorems
