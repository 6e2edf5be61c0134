pub mod Whole
pub mod Answer
pub mod Known
