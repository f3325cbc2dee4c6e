pub mod AgreeLaws
pub mod LevelLaws
