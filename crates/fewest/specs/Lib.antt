pub mod Fewest
pub mod Ways
