pub mod ChangeLaws
pub mod Unique
pub mod SettledLaws
pub mod Theorems
pub mod Eighteen
pub mod HeldLaws
