pub mod BitLaws
pub mod WordLaws
pub mod LastLaws
pub mod OpLaws
pub mod FlagLaws
pub mod WordForLaws
pub mod Unique
