pub mod Places
pub mod Conditions
pub mod Parting
pub mod Lanes
