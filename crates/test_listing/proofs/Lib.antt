pub mod LineLaws
pub mod FitLaws
pub mod RowLaws
pub mod ListedLaws
pub mod Theorems
