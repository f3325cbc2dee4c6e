pub mod CapFor
