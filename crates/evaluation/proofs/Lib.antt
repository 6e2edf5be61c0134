pub mod Bytes
pub mod Operators
pub mod Terms
pub mod LaneLaws
