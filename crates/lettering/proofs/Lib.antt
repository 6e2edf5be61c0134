pub mod Runs
pub mod Cells
pub mod Given
pub mod Laws
