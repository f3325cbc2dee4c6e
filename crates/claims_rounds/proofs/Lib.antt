pub mod Promised
pub mod FrontPage
