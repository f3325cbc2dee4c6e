pub mod DifferLaws
pub mod SlackCapLaws
pub mod Unique
