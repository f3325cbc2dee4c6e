pub mod RisenSearchLaws
pub mod Unique
