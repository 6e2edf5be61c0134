pub mod Writing
pub mod Stack
pub mod Progress
pub mod Memory
pub mod Lent
