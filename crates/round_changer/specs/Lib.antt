pub mod RoundChanged
