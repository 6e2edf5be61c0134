pub mod Terms
pub mod Brackets
pub mod Written
