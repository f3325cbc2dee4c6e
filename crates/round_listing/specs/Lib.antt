pub mod RoundListing
