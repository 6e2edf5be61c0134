pub mod Stands
pub mod Ends
pub mod Fitting
pub mod Numbers
pub mod Laid
