pub mod StageLaws
pub mod CountLaws
pub mod VerdictLaws
pub mod WayLaws
pub mod AfterLaws
pub mod Unique
