pub mod ClearedLaws
pub mod PartLaws
pub mod PlanLaws
pub mod Unique
pub mod Theorems
