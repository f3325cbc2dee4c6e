pub mod Forced2
