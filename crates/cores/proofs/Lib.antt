pub mod MoreCores
pub mod TableCores
