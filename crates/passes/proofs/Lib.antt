pub mod OnwardLaws
pub mod PassLaws
pub mod Unique
