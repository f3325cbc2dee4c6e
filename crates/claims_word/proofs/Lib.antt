pub mod WordOut
pub mod FrontPage
