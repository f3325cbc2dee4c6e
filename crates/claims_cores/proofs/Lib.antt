pub mod Replies
pub mod FrontPage
