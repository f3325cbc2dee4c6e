pub mod DeepLaws
pub mod StartLaws
pub mod PassingLaws
pub mod TableLaws
pub mod Unique
