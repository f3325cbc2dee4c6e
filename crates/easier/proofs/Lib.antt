pub mod WaitLaws
pub mod OwnLaws
pub mod EasedLaws
pub mod AcceptLaws
pub mod NeverHurts
pub mod ShorterLaws
pub mod EdfLaws
pub mod TableLaws
