pub mod CodedLaws
pub mod CodeLaws
pub mod Unique
