pub mod MarkedLaws
pub mod CallLaws
pub mod Parts
