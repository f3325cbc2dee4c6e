pub mod TestListing
