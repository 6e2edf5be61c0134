pub mod Circles
pub mod Fits
pub mod Known
pub mod Sorts
