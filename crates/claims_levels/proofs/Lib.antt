pub mod Answers
pub mod FrontPage
