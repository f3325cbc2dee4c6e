pub mod OrderLaws
pub mod SumLaws
pub mod TopLaws
pub mod LeastLaws
pub mod ChoiceLaws
pub mod FirstLaws
pub mod RowLaws
pub mod Unique
