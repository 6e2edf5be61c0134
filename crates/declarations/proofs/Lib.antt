pub mod Chains
pub mod Functions
pub mod Declared
