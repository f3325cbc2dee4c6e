pub mod FillLaws
pub mod HeldLaws
pub mod PushLaws
pub mod Unique
