pub mod AtHead
pub mod Laws
pub mod Rows
