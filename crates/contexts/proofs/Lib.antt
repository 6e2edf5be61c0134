pub mod Unfold
pub mod Spotting
pub mod Variables
pub mod Down
pub mod Sides
pub mod Following
pub mod Pieces
