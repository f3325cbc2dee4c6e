pub mod FewestTold
