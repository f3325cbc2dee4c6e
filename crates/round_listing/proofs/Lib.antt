pub mod GainLaws
pub mod FitLaws
pub mod RoundLaws
pub mod Theorems
