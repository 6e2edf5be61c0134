pub mod Numbers
pub mod MakingLaws
pub mod Checking
