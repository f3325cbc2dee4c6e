pub mod Counts
pub mod Cover
pub mod Ranks
pub mod Workload
