pub mod Lent
pub mod Fitting
pub mod Known
