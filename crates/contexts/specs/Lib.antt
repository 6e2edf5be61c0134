pub mod Spots
pub mod Steps
