pub mod RangeLaws
pub mod CheckLaws
pub mod TableLaws
pub mod LoadLaws
pub mod Unique
