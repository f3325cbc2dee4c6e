pub mod DecimalLaws
pub mod NumberLaws
pub mod WordLaws
pub mod Unique
