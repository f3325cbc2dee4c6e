pub mod ListLoaded
