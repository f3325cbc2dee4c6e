pub mod AskedIn
