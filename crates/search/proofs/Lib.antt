pub mod ClimbLaws
pub mod SearchLaws
pub mod StartLaws
pub mod Unique
