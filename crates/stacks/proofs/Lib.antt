pub mod Views
pub mod FittingLaws
pub mod RightFrameLaws
pub mod Filling
pub mod StartLaws
pub mod Parts
