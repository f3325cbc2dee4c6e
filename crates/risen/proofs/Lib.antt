pub mod AddLaws
pub mod RisenLaws
pub mod Unique
