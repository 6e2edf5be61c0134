pub mod Symbols
pub mod Evaluating
