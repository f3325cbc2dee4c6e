pub mod HalvingLaws
pub mod StageLaws
pub mod RowsLaws
pub mod CountLaws
pub mod WayLaws
pub mod Unique
