pub mod Refuted
