pub mod Run
pub mod Known
pub mod Rows
