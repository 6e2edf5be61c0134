pub mod Alike
pub mod Run
