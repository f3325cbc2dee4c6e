pub mod WorkLaws
pub mod ShareLaws
pub mod RowLaws
pub mod EvaluateLaws
pub mod Unique
