pub mod MayHurt
