pub mod RestLaws
pub mod LoopLaws
pub mod Unique
