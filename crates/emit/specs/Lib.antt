pub mod Putting
pub mod Bytes
