pub mod Label
pub mod Summand
