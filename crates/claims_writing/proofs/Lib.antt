pub mod FrontPage
