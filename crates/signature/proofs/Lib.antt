pub mod Funcs
pub mod Sorts
pub mod Sig
