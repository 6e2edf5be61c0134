pub mod Instances
pub mod Unequal
