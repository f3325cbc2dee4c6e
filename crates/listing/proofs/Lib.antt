pub mod TaskLaws
pub mod FitLaws
pub mod AnswerLaws
pub mod AllFit
pub mod ListedLaws
pub mod Samples
pub mod Theorems
pub mod SentLaws
