pub mod ChordLaws
pub mod JumpLaws
pub mod Unique
