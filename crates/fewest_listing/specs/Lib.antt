pub mod FewestListing
