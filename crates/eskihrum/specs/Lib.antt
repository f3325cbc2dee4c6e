pub mod Abi
