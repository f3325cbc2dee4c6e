pub mod PastLaws
pub mod UnderLaws
pub mod Unique
