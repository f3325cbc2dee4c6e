pub mod Promise2
