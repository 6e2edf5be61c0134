pub mod Moving
pub mod Walking
pub mod Printing
pub mod FromSheet
