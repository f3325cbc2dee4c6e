pub mod ChangeLaws
pub mod PassingLaws
pub mod TableLaws
pub mod Unique
