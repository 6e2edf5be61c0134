pub mod Standing
pub mod Sizing
