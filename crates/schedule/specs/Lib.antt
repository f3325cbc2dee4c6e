pub mod Schedule
pub mod Promise
pub mod OneByOne
pub mod Limits
pub mod Chart
pub mod Example
